use Rattle.spec_run_loop.proofs.Searching.{SumsTo}
use Rattle.spec_run_loop.proofs.reducing.add_up.Given as goal

abbrev pub invariant-loop-slot : goal.invariant-loop-slot
invariant-loop-slot l = SumsTo l.op l.ops l.from l.past l.slot
