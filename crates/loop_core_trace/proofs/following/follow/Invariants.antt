use Rattle.bpf_step_plain.specs.Machine.{plain}
use Rattle.loop_core_trace.proofs.Underway.{Underway}
use Rattle.loop_core_trace.proofs.following.follow.Given as goal

abbrev pub invariant-loop : goal.invariant-loop
invariant-loop l =
    Underway l.program l.call l.index l.element l.fn.maps l.counter (plain l.slot l.registers l.frame l.caller) l.maps
    l.journal.items l.slots
