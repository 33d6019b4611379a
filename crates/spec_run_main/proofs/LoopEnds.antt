-- Iterations of the loop calls that a program makes end.
use Rattle.std.{proofs.Common.{ℤ, pos, negsuc, List, [], ◌∷◌, Option, Some, None}, specs.List.{AllByRecursion}}
use Rattle.bpf_insn_types.specs.Program.{Program}
use Rattle.bpf_step_model.specs.{State.{LoopCall}, Run.{BoundedResult, Ended, Stuck, Unfinished}}
use Rattle.bpf_step_model.specs.ProgramInOrder.{LoopMade, Finished}
use Rattle.bpf_verify_sound.specs.Soundness.{IsAnswered, OverApproximatesLoop, ProgramEnds}
use Rattle.bpf_step.specs.Iterations.{EachIterationEnds}
use Rattle.spec_run_main.specs.Reports.{IterationsEnd, EndsWithItsLoops}

module _ (program : Program) (each : EachIterationEnds program) where
  call_ends : (answer : ℤ) (call : Option LoopCall) → IsAnswered program answer call → IterationsEnd program call
  call_ends answer None is = tt
  call_ends (pos n) (Some call) is = each call is.0
  call_ends (negsuc n) (Some call) is = absurd is

  all_end : (loops : List LoopMade) → AllByRecursion (OverApproximatesLoop program) loops
      → AllByRecursion (λ made. IterationsEnd program made.call) loops
  all_end [] all = tt
  all_end (made ∷ rest) all = (call_ends made.answer made.call all.0.answered, all_end rest all.1)

  -- a program that ends, each of whose loop calls is within the abstract states
  pub ends_with_its_loops : (e : BoundedResult Finished) → ProgramEnds program e → EndsWithItsLoops program e
  ends_with_its_loops (Ended f) ends = all_end f.loops ends.1
  ends_with_its_loops Stuck ends = absurd ends
  ends_with_its_loops Unfinished ends = absurd ends
