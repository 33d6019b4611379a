-- The marks of reductions tell which elements are reduction-only.
use Rattle.std.proofs.Common.{◌≡◌, ℕ, Bool, true, false, not, ◌&&◌, ◌||◌, List, [], ◌∷◌, Some, None, refl, sym, ◌∙◌, ap}
use Rattle.std.{proofs.Common.{inl, inr, arith}, specs.Prelude.{if◌then◌else◌, ◌==◌, is_some}}
use Rattle.std.{specs.List.{list_any, list_all, count_by}, proofs.lemmas.Bool.Decides.{nat_tests}}
use Rattle.std.proofs.{Math.Bool.{and-false}, lemmas.Bool.{cases_Bool, or_left, and_right, not_from_true}}
use Rattle.std.proofs.lemmas.List.Folds.{list_any-append, list_any_at}
use Rattle.array_maps.specs.declared.access.Op.{Op, TheVariants.{Add, Or, And, Xor, AddH}}
use Rattle.array_maps.specs.Accesses.{Action, Reduce, operators}
use Rattle.loop_core_model.specs.{Actions.{is_same, reduces_by, joined, only_operator}, Flags.{is_plain}}
use Rattle.loop_core_model.proofs.OneElement.{same_op, is_same-refl}

pub any-joined : (p : Action → Bool) (its : List (List Action)) → list_any (λ actions. list_any p actions) its
    ≡ list_any p (joined its)
any-joined p [] = refl
any-joined p (it ∷ its) = ap (λ b. list_any p it || b) (any-joined p its) ∙ sym (list_any-append p it (joined its))

-- what is kept of a list of actions
abbrev pub plain : List Action → Bool
plain actions = list_any is_plain actions

abbrev pub has : List Action → Op → Bool
has actions op = list_any (reduces_by op) actions

-- another operator passes a test
abbrev pub another : Op → (Op → Bool) → Bool
another op test = list_any (λ other. not (is_same op other) && test other) operators

-- one operator passes
any_operator : (test : Op → Bool) (op : Op) → test op ≡ true → list_any test operators ≡ true
any_operator test Add h = list_any_at test operators 0 Add (omega arith) h
any_operator test Or h = list_any_at test operators 1 Add (omega arith) h
any_operator test And h = list_any_at test operators 2 Add (omega arith) h
any_operator test Xor h = list_any_at test operators 3 Add (omega arith) h
any_operator test AddH h = list_any_at test operators 4 Add (omega arith) h

-- a reduce by the operator itself is none by another
another_same : (op : Op) (operand : ℕ) (actions : List Action) → another op (has (Reduce op operand ∷ actions))
    ≡ another op (has actions)
another_same Add operand actions = refl
another_same Or operand actions = refl
another_same And operand actions = refl
another_same Xor operand actions = refl
another_same AddH operand actions = refl

not_and : (b c d : Bool) → b ≡ false → c ≡ true → (not b && (c || d)) ≡ true
not_and b c d h k = rw (h, k) refl

and_not_true : (a b : Bool) → b ≡ true → false ≡ (a && not b)
and_not_true a b h = sym (and_right a (not b) (not_from_true b h))

-- all reduce by an operator where none is plain and none reduces by another
all_alone : (op : Op) (actions : List Action) → list_all (reduces_by op) actions ≡ (not (plain actions)
    && not (another op (has actions)))
all_alone op [] = simp and-false
all_alone op (Reduce other operand ∷ actions) = elim (cases_Bool (is_same op other)) [
  | inl same ↦ rw (same, ← same_op op other same, another_same op operand actions) (all_alone op actions)
  | inr apart ↦ rw apart (and_not_true (not (plain actions)) (another op (has (Reduce other operand ∷ actions)))
      (any_operator (λ o. not (is_same op o) && has (Reduce other operand ∷ actions) o) other
      (not_and (is_same op other) (is_same other other) (has actions other) apart (is_same-refl other))))
]
all_alone op (_ ∷ actions) = refl

-- where an operator passes, exactly one does if no other passes
exactly_one : (op : Op) (test : Op → Bool) → test op ≡ true → (count_by test operators == 1) ≡ not (another op test)
exactly_one Add test h = grind (arith, nat_tests)
exactly_one Or test h = grind (arith, nat_tests)
exactly_one And test h = grind (arith, nat_tests)
exactly_one Xor test h = grind (arith, nat_tests)
exactly_one AddH test h = grind (arith, nat_tests)

some_if : (b : Bool) (op : Op) → is_some (if b then Some op else None) ≡ b
some_if true op = refl
some_if false op = refl

-- a list's only operator, by what is kept of it
pub only-kept : (actions : List Action) → is_some (only_operator actions) ≡ (not (plain actions)
    && (count_by (has actions) operators == 1))
only-kept [] = refl
only-kept (Reduce op operand ∷ actions) =
    some_if (list_all (reduces_by op) actions) op
    ∙ all_alone op actions
    ∙ ap (λ b. not (plain actions) && not b) (sym (another_same op operand actions))
    ∙ ap (λ b. not (plain actions) && b)
    (sym (exactly_one op (has (Reduce op operand ∷ actions)) (or_left (is_same op op) _ (is_same-refl op))))
only-kept (_ ∷ actions) = refl
