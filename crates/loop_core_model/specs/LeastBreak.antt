-- Which iterations of a speculative loop count. Each of them runs on the words as they stood when the loop began.
use Rattle.std.specs.Prelude.{ℕ, zero, suc, ◌+◌, Bool, false, ◌==◌, min, if◌then◌else◌, List, [], ◌∷◌, map, Option}
use Rattle.std.specs.{Prelude.{Some, None}, List.{range_with_len}, Option.{option_or}}
use Rattle.array_maps.specs.Accesses.{Access}
use Rattle.bpf_insn_types.specs.Program.{Program}
use Rattle.bpf_step_model.specs.{State.{LoopCall}, Run.{BoundedResult, Ended, Stuck, Unfinished, mapped, followed}}
use Rattle.bpf_step_model.specs.Iteration.{Iterated, iteration}

-- the least number below n that passes a test
abbrev pub least_below : (ℕ → Bool) → ℕ → Option ℕ
least_below test zero = None
least_below test (suc n) = option_or (least_below test n) (if test n then Some n else None)

-- the lesser of two numbers that may be there
abbrev pub lesser : Option ℕ → Option ℕ → Option ℕ
lesser None other = other
lesser (Some a) None = Some a
lesser (Some a) (Some b) = Some (min a b)

-- an iteration ended and returned 1
abbrev pub is_break : BoundedResult Iterated → Bool
is_break Stuck = false
is_break Unfinished = false
is_break (Ended it) = it.ret == 1

-- the least break: the least index whose iteration on the start words returns 1
abbrev pub least_break : Program → ℕ → LoopCall → List ℕ → Option ℕ
least_break program bound call words = least_below (λ index. is_break (iteration program bound call index words)) call.n

-- this many count: up to the least break, or all
abbrev pub count_to : ℕ → Option ℕ → ℕ
count_to n None = n
count_to n (Some index) = index + 1

-- how many iterations count; that is also what the loop answers
abbrev pub counted : Program → ℕ → LoopCall → List ℕ → ℕ
counted program bound call words = count_to call.n (least_break program bound call words)

-- the counted iterations on the start words, by rising index
abbrev pub counted_iterations : Program → ℕ → LoopCall → List ℕ → List (BoundedResult Iterated)
counted_iterations program bound call words =
    map (λ index. iteration program bound call index words) (range_with_len 0 (counted program bound call words))

-- a value in front of others that ended
abbrev pub in_front_of : {A : Type 0} → BoundedResult (List A) → A → BoundedResult (List A)
in_front_of rest a = mapped (λ others. a ∷ others) rest

-- what all of a list gave, where each ended; else what became of the first that didn't
abbrev pub all_ended : {A : Type 0} → List (BoundedResult A) → BoundedResult (List A)
all_ended [] = Ended []
all_ended (e ∷ rest) = followed (in_front_of (all_ended rest)) e

-- the accesses of some iterations
abbrev pub accesses_of_each : List Iterated → List (List Access)
accesses_of_each iterations = map (λ (it : Iterated). it.accesses) iterations

-- the accesses of each counted iteration on the start words, where all of them end
abbrev pub counted_runs : Program → ℕ → LoopCall → List ℕ → BoundedResult (List (List Access))
counted_runs program bound call words =
    mapped accesses_of_each (all_ended (counted_iterations program bound call words))
