-- Reductions by one operator, and the action that ends one.
use Rattle.std.proofs.Common.{◌≡◌, ℕ, inl, inr, zero, suc, true, false, List, [], ◌∷◌, ◌++◌, take, Option, Some, None}
use Rattle.std.{proofs.Common.{refl, sym, ap, ◌∙◌}, specs.Prelude.{is_some, slice_index_or}}
use Rattle.std.{specs.List.{list_all}, proofs.lemmas.List.{append-nil, append_assoc, Folds.{list_all-append}}}
use Rattle.array_maps.specs.{declared.access.Op.{Op}, Accesses.{Action, Reduce}}
use Rattle.std.proofs.lemmas.Bool.{and_parts, cases_Bool}
use Rattle.loop_core_model.{specs.Actions.{is_same, reduces_by, joined, only_operator}, proofs.OneElement.{same_op}}
use Rattle.loop_core_trace.specs.declared.slots.FirstReduce.{FirstReduce}
use Rattle.loop_core_trace.specs.Operators.{operator_of, reduces_alike, AreAlike}
use Rattle.loop_core_trace.proofs.OperatorLaws.{of_one, chosen, by_more}
use Rattle.loop_core_witness.specs.Reductions.{are_reduces, GoOn, operator_after, end_slot}

-- the actions of iterations up to one more
pub joined-take : {A : Type 0} (xs : List (List A)) (k : ℕ) → joined (take (suc k) xs) ≡ joined (take k xs)
    ++ slice_index_or xs k []
joined-take [] zero = refl
joined-take [] (suc k) = refl
joined-take (x ∷ xs) zero = append-nil x
joined-take (x ∷ xs) (suc k) =
    ap (λ rest. x ++ rest) (joined-take xs k) ∙ sym (append_assoc x (joined (take k xs)) (slice_index_or xs k []))

-- actions are reduces by this operator, or there are none yet
abbrev pub IsKept : Option Op → List Action → Type 0
IsKept None actions = actions ≡ []
IsKept (Some op) actions = only_operator actions ≡ Some op

by_is : (first : FirstReduce) (a : Action) → reduces_by first.op a ≡ reduces_alike (Some first) (operator_of a)
by_is first (Reduce other operand) = refl
by_is first _ = refl

-- an action that isn't so
abbrev pub IsOff : Option Op → Action → Type 0
IsOff None a = operator_of a ≡ None
IsOff (Some op) a = reduces_by op a ≡ false

off_first : (a : Action) → reduces_alike None (operator_of a) ≡ false → operator_of a ≡ None
off_first (Reduce op operand) off = absurd cc
off_first _ off = refl

pub off_other : (op other : Op) (a : Action) → operator_of a ≡ Some other → is_same op other ≡ false
    → reduces_by op a ≡ false
off_other op other a is apart = by_is (record { op = op; slot = 0 }) a ∙ rw is apart

-- the operator of an iteration's first reduce is the one that is kept
abbrev pub Fits : Option Op → Option FirstReduce → Type 0
Fits None first = Unit {0}
Fits (Some op) None = Unit {0}
Fits (Some op) (Some first) = op ≡ first.op

-- actions that are alike, after those that are kept
pub kept_more : (kept : Option Op) (first : Option FirstReduce) (earlier here : List Action) → Fits kept first
    → IsKept kept earlier → AreAlike first here → IsKept (operator_after kept first) (earlier ++ here)
kept_more None None earlier here fits is alike = rw is alike
kept_more None (Some first) earlier here fits is alike = rw is alike
kept_more (Some op) None earlier here fits is alike = rw (alike, append-nil earlier) is
kept_more (Some op) (Some first) earlier here fits is alike = by_more op earlier here is (alike ∙ ap Some (sym fits))

-- and an action that isn't
pub off_more : (kept : Option Op) (first : Option FirstReduce) (a : Action) → Fits kept first
    → reduces_alike first (operator_of a) ≡ false → IsOff (operator_after kept first) a
off_more None None a fits off = off_first a off
off_more None (Some first) a fits off = by_is first a ∙ off
off_more (Some op) None a fits off = by_is (record { op = op; slot = 0 }) a ∙ rw (off_first a off) refl
off_more (Some op) (Some first) a fits off = rw fits (by_is first a ∙ off)

-- where an iteration doesn't end the reduction, all of it is alike
pub goes_on : (kept : Option Op) (first : Option FirstReduce) (other : Option ℕ) → end_slot kept first other ≡ None
    → Fits kept first × (other ≡ None)
goes_on None first other none = (tt, none)
goes_on (Some op) None other none = (tt, none)
goes_on (Some op) (Some first) other none =
    elim (cases_Bool (is_same op first.op)) [
      | inl same ↦ (same_op op first.op same, rw same at none)
      | inr apart ↦ absurd (let ends = rw apart at none in cc)
    ]

-- what is kept is reduces alone
pub kept_reduces : (kept : Option Op) (actions : List Action) → IsKept kept actions → are_reduces actions ≡ true
kept_reduces None actions is = ap are_reduces is
kept_reduces (Some op) [] is = refl
kept_reduces (Some op) (a ∷ actions) is = ap is_some is

-- and with an action that is off it isn't
pub kept_ends : (kept : Option Op) (actions : List Action) (a : Action) → IsKept kept actions → IsOff kept a
    → are_reduces (actions ++ a ∷ []) ≡ false
kept_ends None actions a is off = rw (is, of_one a, off) refl
kept_ends (Some op) (Reduce other operand ∷ actions) a is off =
    let parts = chosen (list_all (reduces_by other) actions) other op is in
    rw (list_all-append (reduces_by other) actions (a ∷ []), parts.0, parts.1, off) refl
kept_ends (Some op) _ a is off = absurd cc

-- actions that are all by one operator
all_by : (op : Op) (a : Action) (here : List Action) → list_all (reduces_by op) (a ∷ here) ≡ true
    → only_operator (a ∷ here) ≡ Some op
all_by op (Reduce other operand) here all =
    let parts = and_parts (is_same op other) (list_all (reduces_by op) here) all in
    rw (← same_op op other parts.0, parts.1) refl
all_by op _ here all = absurd cc

-- and so does one whose actions go on with it
pub kept_quiet : (kept : Option Op) (earlier here : List Action) → IsKept kept earlier → GoOn kept here
    → IsKept kept (earlier ++ here)
kept_quiet None earlier here is on = rw is on
kept_quiet (Some op) earlier [] is on = rw (append-nil earlier) is
kept_quiet (Some op) earlier (a ∷ here) is on = by_more op earlier (a ∷ here) is (all_by op a here on)
