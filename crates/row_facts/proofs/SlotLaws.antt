-- The slots of a list, one more at a time.
use Rattle.std.proofs.Common.{◌≡◌, ℕ, ◌+◌, List, [], ◌∷◌, ◌++◌, true, slice_get, Some, sym, ap, subst, ◌∙◌}
use Rattle.std.proofs.Common.{length-append, inl, inr}
use Rattle.row_list.specs.declared.row_op.RowOp.{RowOp}
use Rattle.row_facts.specs.{declared.slots.Slot.{Slot}, Skips.{TakesEarlier}, Slots.{AreSlots, may_skip}}
use Rattle.row_facts.proofs.FactLaws.{get-more}

pub one_more_slot : (list : List RowOp) (k : ℕ) (slots : List Slot) (op : RowOp) (slot : Slot) → slice_get list k ≡ Some op
    → (may_skip slot.skip ≡ true → TakesEarlier k op) → AreSlots list k slots → AreSlots list (k + 1) (slots ++ slot ∷ [])
one_more_slot list k slots op slot is skips are = record {
  many = length-append slots (slot ∷ []) ∙ ap (λ (n : ℕ). n + 1) are.many;
  each = λ j o s there slot_there skip. elim (get-more slots slot s j slot_there) [
    | inl before ↦ are.each j o s there before skip
    | inr last ↦ at_last j o s there (last.0 ∙ are.many) last.1 skip
  ];
} where
  at_last : (j : ℕ) (o : RowOp) (s : Slot) → slice_get list j ≡ Some o → j ≡ k → slot ≡ s → may_skip s.skip ≡ true → TakesEarlier j o
  at_last j o s there same same_slot skip =
      let op_same : op ≡ o = cc (sym is ∙ ap (slice_get list) (sym same) ∙ there) in
      subst (λ (n : ℕ). TakesEarlier n o) (sym same)
      (subst (TakesEarlier k) op_same (skips (subst (λ (t : Slot). may_skip t.skip ≡ true) (sym same_slot) skip)))
