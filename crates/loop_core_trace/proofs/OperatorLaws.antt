-- The reduces of an element after one access more.
use Rattle.std.proofs.Common.{◌≡◌, ℕ, Bool, true, false, List, [], ◌∷◌, ◌++◌, Option, Some, None, refl, sym, ap, subst}
use Rattle.std.{proofs.Common.{◌∙◌}, specs.{Prelude.{not, if◌then◌else◌}, Bool.{then_some}, List.{list_all}}}
use Rattle.std.proofs.lemmas.List.Folds.{list_all-append}
use Rattle.array_maps.specs.declared.access.Op.{Op}
use Rattle.array_maps.specs.Accesses.{Action, Read, Write, ReadWrite, Reduce, Access, actions_at}
use Rattle.bpf_insn_types.specs.Program.{Program}
use Rattle.bpf_step_model.specs.State.{LoopCall}
use Rattle.loop_core_model.{specs.Actions.{reduces_by, only_operator}, proofs.OneElement.{same_op, only_reduces}}
use Rattle.loop_core_trace.specs.{declared.slots.FirstReduce.{FirstReduce}, Places.{AccessesAt, OtherAccessAt}}
use Rattle.loop_core_trace.specs.{Operators.{operator_of, reduces_alike, AreAlike}, Traced.{ReduceIs, OtherIs}}
use Rattle.loop_core_trace.specs.Touches.{first_reduce_after, other_after}

-- one action
pub of_one : (a : Action) → only_operator (a ∷ []) ≡ operator_of a
of_one (Read saw) = refl
of_one (Write left) = refl
of_one (ReadWrite saw left) = refl
of_one (Reduce op operand) = refl

-- an operator that is told is the first one's, and all that follow are by it
pub chosen : (b : Bool) (a op : Op) → (if b then Some a else None) ≡ Some op → (b ≡ true) × (a ≡ op)
chosen true a op h = (refl, cc)
chosen false a op h = absurd (cc)

-- more actions by the same operator
pub by_more : (op : Op) (xs ys : List Action) → only_operator xs ≡ Some op → only_operator ys ≡ Some op
    → only_operator (xs ++ ys) ≡ Some op
by_more op [] ys h k = absurd cc
by_more op (Read saw ∷ xs) ys h k = absurd cc
by_more op (Write left ∷ xs) ys h k = absurd cc
by_more op (ReadWrite saw left ∷ xs) ys h k = absurd cc
by_more op (Reduce other operand ∷ xs) ys h k =
    let parts = chosen (list_all (reduces_by other) xs) other op h in
    let rest : list_all (reduces_by other) ys ≡ true =
    subst (λ (o : Op). list_all (reduces_by o) ys ≡ true) (sym parts.1) (only_reduces op ys k) in
    let all : list_all (reduces_by other) (xs ++ ys) ≡ true =
    list_all-append (reduces_by other) xs ys ∙ rw (parts.0, rest) in
    ap (λ (b : Bool). if b then Some other else None) all ∙ ap Some parts.1

module _ (program : Program) (call : LoopCall) (index : ℕ) (words : List ℕ) (element : ℕ) where
  module _ (before : List Access) (access : Access) (slot : ℕ) (made : AccessesAt program call index words slot before
      access) (here : access.element ≡ element)
      (now : actions_at element (before ++ access ∷ []) ≡ actions_at element before ++ access.action ∷ []) where
    first_at : (reduces : Option Op) → operator_of access.action ≡ reduces → actions_at element before ≡ []
        → ReduceIs program call index words element (first_reduce_after None None reduces slot)
    first_at None is nothing = tt
    first_at (Some op) is nothing =
        record { before = before; access = access; made = made; here = here; reducing = is; alone = nothing }

    pub reduce_next : (first : Option FirstReduce) (other : Option ℕ) (reduces : Option Op)
        → operator_of access.action ≡ reduces → ReduceIs program call index words element first
        → OtherIs program call index words element before first other →
        ReduceIs program call index words element (first_reduce_after first other reduces slot)
    reduce_next (Some first) other reduces is was was_other = was
    reduce_next None (Some at) reduces is was was_other = was
    reduce_next None None reduces is was was_other = first_at reduces is was_other

    -- one more by the same operator
    alike : (first : Option FirstReduce) (reduces : Option Op) → operator_of access.action ≡ reduces
        → reduces_alike first reduces ≡ true → AreAlike first (actions_at element before) →
        AreAlike (first_reduce_after first None reduces slot) (actions_at element (before ++ access ∷ []))
    alike first None is same are = absurd cc
    alike None (Some op) is same are =
        ap only_operator now ∙ ap (λ (xs : List Action). only_operator (xs ++ access.action ∷ [])) are
        ∙ of_one access.action ∙ is
    alike (Some first) (Some op) is same are =
        ap only_operator now
        ∙ by_more first.op (actions_at element before) (access.action ∷ []) are
        (of_one access.action ∙ is ∙ ap Some (sym (same_op first.op op same)))

    -- or another one, which leaves the first one as it is
    first_stays : (first : Option FirstReduce) (reduces : Option Op) → reduces_alike first reduces ≡ false
        → first_reduce_after first None reduces slot ≡ first
    first_stays (Some first) reduces off = refl
    first_stays None None off = refl
    first_stays None (Some op) off = absurd cc

    unlike : (first : Option FirstReduce) (reduces : Option Op) → operator_of access.action ≡ reduces
        → reduces_alike first reduces ≡ false → AreAlike first (actions_at element before) →
        OtherAccessAt program call index words element (first_reduce_after first None reduces slot) slot
    unlike first reduces is off are = rw (first_stays first reduces off) (record {
      before = before;
      access = access;
      made = made;
      here = here;
      alike = are;
      other = ap (reduces_alike first) is ∙ off;
    })

    pub other_next : (first : Option FirstReduce) (other : Option ℕ) (reduces : Option Op)
        → operator_of access.action ≡ reduces → OtherIs program call index words element before first other →
        OtherIs program call index words element (before ++ access ∷ []) (first_reduce_after first other reduces slot)
        (other_after first other reduces slot)
    other_next (Some first) (Some at) reduces is was = was
    other_next None (Some at) reduces is was = was
    other_next first None reduces is was = go (reduces_alike first reduces) refl
      where
        go : (b : Bool) → reduces_alike first reduces ≡ b → OtherIs program call index words element (before
            ++ access ∷ []) (first_reduce_after first None reduces slot) (then_some (not b) slot)
        go true same = alike first reduces is same was
        go false off = unlike first reduces is off was

  -- an access of another element changes nothing
  pub other_same : (before after : List Access) → actions_at element after ≡ actions_at element before
      → (first : Option FirstReduce) (other : Option ℕ) → OtherIs program call index words element before first other
      → OtherIs program call index words element after first other
  other_same before after same first None was = subst (AreAlike first) (sym same) was
  other_same before after same first (Some at) was = was
