-- Masks that are in others, or apart from them.
use Rattle.std.proofs.Common.{◌≡◌, ℕ, ◌+◌, ◌<◌, ◌≤◌, Bool, true, false, List, slice_index, slice_get, Some, refl, ap}
use Rattle.std.proofs.{Common.{subst, arith, inl, inr, sym, ◌∙◌}, lemmas.Bool.{and_parts, not-true, or_cases}}
use Rattle.std.specs.Prelude.{◌==◌, ◌&&◌, ◌||◌, not}
use Rattle.bpf_insn_types.specs.{declared.insn.{Compare.{Compare}, Width.{Width}}, Words.{holds}}
use Rattle.row_list.specs.declared.row_op.RowOp.{RowOp, TheVariants.{All, Holds as HoldsOp, Without, Either}}
use Rattle.row_list.specs.Rows.{bit, is_in}
use Rattle.row_facts.specs.Narrower.{AreMasksApart, IsNarrower, IsNeverIn}

pub bit-true : (b : Bool) (n : ℕ) → n ≡ bit b → (n == 1) ≡ true → b ≡ true
bit-true true n e h = refl
bit-true false n e h = rw e at h

module _ (list : List RowOp) (mask other : ℕ) where
  pub holds_narrower : (width : Width) (compare : Compare) (one two : ℕ) → slice_get list mask ≡ Some (HoldsOp other width compare one two)
      → IsNarrower list mask other
  holds_narrower width compare one two is = record {
    each = λ k index caller words values below within made there.
        let test = holds width compare (slice_index values one) (slice_index values two) in
        (and_parts (is_in values other) test (bit-true (is_in values other && test) (slice_index values mask)
        (made mask (HoldsOp other width compare one two) below is) there)).0;
  }

  pub without_narrower : (excluded : ℕ) → slice_get list mask ≡ Some (Without other excluded) → IsNarrower list mask other
  without_narrower excluded is = record {
    each = λ k index caller words values below within made there.
        let rest = not (is_in values excluded) in
        (and_parts (is_in values other) rest (bit-true (is_in values other && rest) (slice_index values mask)
        (made mask (Without other excluded) below is) there)).0;
  }

  pub same_narrower : mask ≡ other → IsNarrower list mask other
  same_narrower is = record {
    each = λ k index caller words values below within made there. subst (λ (m : ℕ). is_in values m ≡ true) is there;
  }

  pub all_narrower : slice_get list other ≡ Some All → IsNarrower list mask other
  all_narrower is = record {
    each = λ k index caller words values below within made there. ap (λ (n : ℕ). n == 1) (made other All within is);
  }

pub narrower_more : (list : List RowOp) (mask at next : ℕ) → at ≤ mask → IsNarrower list mask at → IsNarrower list at next
    → IsNarrower list mask next
narrower_more list mask at next less one two = record {
  each = λ k index caller words values below within made there.
      let inside : at < k = omega (arith, less, below) in
      two.each k index caller words values inside within made (one.each k index caller words values below inside made there);
}

-- what never holds in the lanes of a mask
module _ (list : List RowOp) (k : ℕ) (fact : List ℕ → Type 0) where
  pub never_in_narrower : (mask : ℕ) → IsNarrower list k mask → IsNeverIn list mask fact → IsNeverIn list k fact
  never_in_narrower mask narrow known = record {
    never = λ index caller words values are there holding.
        known.never index caller words values are
        (narrow.each (k + mask + 1) index caller words values (omega arith) (omega arith) (λ j op below. are.each j op)
        there) holding;
  }

  pub never_in_either : (first second : ℕ) → slice_get list k ≡ Some (Either first second) →
      IsNeverIn list first fact → IsNeverIn list second fact → IsNeverIn list k fact
  never_in_either first second is one two = record {
    never = λ index caller words values are there holding.
        let a = is_in values first in
        let b = is_in values second in
        elim (or_cases a b (bit-true (a || b) (slice_index values k) (are.each k (Either first second) is) there)) [
          | inl there ↦ one.never index caller words values are there holding
          | inr there ↦ two.never index caller words values are there holding
        ];
  }

-- masks that are apart, the other way round
pub apart_turned : (list : List RowOp) (one other : ℕ) → AreMasksApart list other one → AreMasksApart list one other
apart_turned list one other apart = record {
  never = λ index caller words values are there inside. apart.never index caller words values are inside there;
}

-- the lanes of one aren't in a mask that has the other
pub apart_without : (list : List RowOp) (one other mask excluded : ℕ) → slice_get list one ≡ Some (Without mask excluded) →
    IsNarrower list other excluded → AreMasksApart list one other
apart_without list one other mask excluded is narrow = record {
  never = λ index caller words values are there inside.
      let rest = not (is_in values excluded) in
      let both = and_parts (is_in values mask) rest (bit-true (is_in values mask && rest) (slice_index values one)
      (are.each one (Without mask excluded) is) there) in
      let wider = narrow.each (other + excluded + 1) index caller words values (omega arith) (omega arith)
      (λ j op below. are.each j op) inside in
      absurd (cc (sym wider ∙ not-true (is_in values excluded) both.1));
}
