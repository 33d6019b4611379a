-- Accesses that reduce elements by one operator alone.
use Rattle.std.proofs.Common.{◌≡◌, ℕ, Bool, true, ◌&&◌, inl, inr, List, [], ◌∷◌, ◌++◌, refl, ap, ◌∙◌, subst}
use Rattle.std.{specs.{Prelude.{slice_index, ◌==◌}, List.{list_all}}, proofs.lemmas.Bool.{cases_Bool}}
use Rattle.array_maps.specs.declared.access.Op.{Op}
use Rattle.array_maps.specs.Accesses.{Action, Read, Write, ReadWrite, Reduce, Access, combined, left_by_all, actions_at}
use Rattle.loop_core_model.{specs.{Actions.{is_same, reduces_by}, Kept.{OperatorsAssociate}}, proofs.Turns.{Saws}}
use Rattle.loop_core_model.proofs.OneElement.{and_true_left, and_true_right, same_op, reduces_saw}
use Rattle.spec_run_loop.specs.SumLaw.{AllReduce}

pub and_both : (a b : Bool) → a ≡ true → b ≡ true → (a && b) ≡ true
and_both a b x y = rw (x, y) refl

-- so do those of one list and those of another
pub all_both : (op : Op) (xs ys : List Access) → AllReduce op xs → AllReduce op ys → AllReduce op (xs ++ ys)
all_both op [] ys first second = second
all_both op (x ∷ xs) ys first second = (first.0, all_both op xs ys first.1 second)

-- and so do the actions at one element
pub reduces_at : (op : Op) (made : List Access) → AllReduce op made → (e : ℕ)
    → list_all (reduces_by op) (actions_at e made) ≡ true
reduces_at op [] all e = refl
reduces_at op (access ∷ made) all e =
    let rest = reduces_at op made all.1 e in
    elim (cases_Bool (access.element == e)) [
      | inl here ↦ rw here (and_both (reduces_by op access.action) (list_all (reduces_by op) (actions_at e made)) all.0
          rest)
      | inr other ↦ rw other rest
    ]

-- they saw nothing
pub saw_nothing : (op : Op) (made : List Access) → AllReduce op made → (words : List ℕ) → Saws made words
saw_nothing op made all words e inside =
    reduces_saw op (actions_at e made) (slice_index words e) (reduces_at op made all e)

-- what reduces leave of a word that is combined with another is the word, combined with what they leave of the other
pub combined_first : OperatorsAssociate → (op : Op) (actions : List Action) (word other : ℕ)
    → list_all (reduces_by op) actions ≡ true
    → left_by_all actions (combined op word other) ≡ combined op word (left_by_all actions other)
combined_first laws op [] word other h = refl
combined_first laws op (Read saw ∷ actions) word other h = absurd (cc)
combined_first laws op (Write left ∷ actions) word other h = absurd (cc)
combined_first laws op (ReadWrite saw left ∷ actions) word other h = absurd (cc)
combined_first laws op (Reduce by operand ∷ actions) word other h =
    let same : op ≡ by = same_op op by (and_true_left (is_same op by) _ h) in
    subst (λ (o : Op). left_by_all actions (combined o (combined op word other) operand)
    ≡ combined op word (left_by_all actions (combined o other operand))) same
    (ap (left_by_all actions) (laws.each op word other operand)
    ∙ combined_first laws op actions word (combined op other operand) (and_true_right (is_same op by) _ h))
