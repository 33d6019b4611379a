use Rattle.std.proofs.Common.{take}
use Rattle.bpfspec_machine.specs.Machines.{RanEach}
use Rattle.bpfspec_machine.proofs.machine.Machine.run_each.Given as goal

abbrev pub invariant-loop-i : goal.invariant-loop-i
invariant-loop-i l = RanEach (take l.i l.arguments) l.fn.self l.self (take l.i l.answers)
