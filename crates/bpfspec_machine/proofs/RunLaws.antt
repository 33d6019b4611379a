-- Runs in turn.
use Rattle.std.proofs.Common.{◌+◌, ◌<◌, ℕ, List, [], ◌∷◌, ◌++◌, length, take, slice_index, slice_set, refl, sym, subst}
use Rattle.std.proofs.lemmas.List.{take_more, take_more_set}
use Rattle.bpfspec_machine.specs.Machines.{MachineState, MachineRan, RanEach}

-- one more after the others
one_more : (arguments : List ℕ) (old between new : MachineState) (answers : List ℕ) (argument answer : ℕ)
    → RanEach arguments old between answers → MachineRan argument between new answer
    → RanEach (arguments ++ argument ∷ []) old new (answers ++ answer ∷ [])
one_more [] old between new [] argument answer ran last =
    (new, subst (λ (machine : MachineState). MachineRan argument machine new answer) ran last, refl)
one_more [] old between new (other ∷ answers) argument answer ran last = absurd ran
one_more (one ∷ arguments) old between new [] argument answer ran last = absurd ran
one_more (one ∷ arguments) old between new (other ∷ answers) argument answer ran last =
    (ran.0, ran.1, one_more arguments ran.0 between new answers argument answer ran.2 last)

-- one more of lists that are filled in order
pub one_more_at : (arguments answers : List ℕ) (old between new : MachineState) (i answer : ℕ)
    → i < length arguments → i < length answers → RanEach (take i arguments) old between (take i answers)
    → MachineRan (slice_index arguments i) between new answer
    → RanEach (take (i + 1) arguments) old new (take (i + 1) (slice_set answers i answer))
one_more_at arguments answers old between new i answer argued answered ran last =
    subst (λ (xs : List ℕ). RanEach xs old new (take (i + 1) (slice_set answers i answer)))
    (sym (take_more arguments i 0 argued)) (subst
    (λ (xs : List ℕ). RanEach (take i arguments ++ slice_index arguments i ∷ []) old new xs)
    (sym (take_more_set answers i answer answered))
    (one_more (take i arguments) old between new (take i answers) (slice_index arguments i) answer ran last))
