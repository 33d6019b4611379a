use Rattle.bpf_verify_sound.specs.Soundness.{most_from}
use Rattle.spec_run_replay.proofs.MainTurns.{StillSeeks}
use Rattle.spec_run_replay.proofs.first_loop.first_loop.Given as goal

abbrev pub invariant-loop-call : goal.invariant-loop-call
invariant-loop-call l = StillSeeks l.program l.argument l.main l.fn.maps l.maps l.number

abbrev pub decreases-loop-call : goal.decreases-loop-call
decreases-loop-call l = most_from l.program l.main.slot
