-- A speculative loop as it is run: the iterations of an interval on the start words, up to the first that breaks.
use Rattle.std.specs.Prelude.{◌≡◌, ℕ, zero, suc, ◌+◌, ◌==◌, if◌then◌else◌, List, [], ◌∷◌}
use Rattle.bpf_insn_types.specs.Program.{Program}
use Rattle.bpf_step_model.specs.{State.{LoopCall}, Run.{BoundedResult, Ended, followed}}
use Rattle.bpf_step_model.specs.Iteration.{Iterated, iteration}
use Rattle.loop_core_model.specs.LeastBreak.{in_front_of, all_ended, counted_iterations}

-- an iteration, and unless it breaks the ones after it
abbrev pub up_to_break : BoundedResult (List Iterated) → Iterated → BoundedResult (List Iterated)
up_to_break behind it = if it.ret == 1 then Ended (it ∷ []) else in_front_of behind it

-- at most n iterations from an index on, up to the first that breaks
abbrev pub scan : (ℕ → BoundedResult Iterated) → (left index : ℕ) → BoundedResult (List Iterated)
scan iterate zero index = Ended []
scan iterate (suc left) index = followed (up_to_break (scan iterate left (index + 1))) (iterate index)

-- the counted iterations are the scan of all
abbrev pub CountedAreScanned : Type 0
CountedAreScanned = (program : Program) (bound : ℕ) (call : LoopCall) (words : List ℕ) →
    all_ended (counted_iterations program bound call words)
    ≡ scan (λ index. iteration program bound call index words) call.n 0
