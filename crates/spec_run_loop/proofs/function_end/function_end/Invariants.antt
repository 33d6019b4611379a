use Rattle.spec_run_loop.proofs.FunctionEnds.{NoneAfter}
use Rattle.spec_run_loop.proofs.function_end.function_end.Given as goal

abbrev pub invariant-loop-function : goal.invariant-loop-function
invariant-loop-function l = NoneAfter l.program l.slot l.function
