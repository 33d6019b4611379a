-- Blocks of a loop. A block is the scan of its interval: its iterations on the start words from its first index on, up
-- to the first that breaks.
use Rattle.std.specs.Prelude.{◌≡◌, ℕ, ◌+◌, ◌-◌, Bool, ◌==◌, if◌then◌else◌, List, [], ◌∷◌, ◌++◌, Option, Some, None}
use Rattle.std.specs.List.{list_any}
use Rattle.bpf_insn_types.specs.Program.{Program}
use Rattle.bpf_step_model.specs.{State.{LoopCall}, Run.{BoundedResult, Ended, mapped, followed}}
use Rattle.bpf_step_model.specs.Iteration.{Iterated, iteration}
use Rattle.loop_core_model.specs.Scan.{scan}

-- what is run of the interval from a first index up to, and without, another
abbrev pub block_run : Program → ℕ → LoopCall → List ℕ → (first past : ℕ) → BoundedResult (List Iterated)
block_run program bound call words first past = scan (λ index. iteration program bound call index words) (past - first)
    first

-- some iteration broke
abbrev pub has_break : List Iterated → Bool
has_break iterations = list_any (λ (it : Iterated). it.ret == 1) iterations

-- the index at which iterations from a first index on broke
abbrev pub break_from : ℕ → List Iterated → Option ℕ
break_from index [] = None
break_from index (it ∷ rest) = if it.ret == 1 then Some index else break_from (index + 1) rest

-- what was run, and unless it broke what is run after it
abbrev pub unless_break : BoundedResult (List Iterated) → List Iterated → BoundedResult (List Iterated)
unless_break behind iterations = if has_break iterations then Ended iterations
    else mapped (λ others. iterations ++ others) behind

-- the scan of two adjacent intervals is the scan of the first and then, unless it broke, of the second
abbrev pub ScansFollow : Type 0
ScansFollow = (iterate : ℕ → BoundedResult Iterated) (few more index : ℕ) →
    scan iterate (few + more) index ≡ followed (unless_break (scan iterate more (index + few))) (scan iterate few index)
