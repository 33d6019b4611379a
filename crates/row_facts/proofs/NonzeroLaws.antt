-- Masks in whose lanes a value isn't 0.
use Rattle.std.proofs.Common.{◌≡◌, ◌∙◌, ℕ, inl, inr, List, [], ◌∷◌, ◌++◌, length, Bool, true, false, refl, sym}
use Rattle.std.{proofs.Common.{subst}, specs.Prelude.{slice_get, slice_index, Some, ◌==◌, ◌&&◌, not}}
use Rattle.std.proofs.lemmas.Bool.{and_from, and_parts, not-true}
use Rattle.bpf_insn_types.specs.{declared.insn.{Width.TheVariants.{W64}, Compare.TheVariants.{Eq, Ne}}, Words.{holds}}
use Rattle.row_list.specs.declared.row_op.RowOp.{RowOp, TheVariants.{Number, Holds, Without}}
use Rattle.row_list.specs.Rows.{is_in, bit}
use Rattle.row_facts.specs.Nonzero.{IsNonzeroIn, IsNullTest, AreNonzeroIn}
use Rattle.row_facts.proofs.{FactLaws.{get-more}, NarrowLaws.{bit-true}}

bit-false : (b : Bool) (n : ℕ) → n ≡ bit b → (n == 1) ≡ false → b ≡ false
bit-false true n e h = absurd (let k = rw e at h in cc)
bit-false false n e h = refl

-- 0 isn't unequal to 0, and equal to it
never-unequal : holds W64 Ne 0 0 ≡ true → ⊥
unfolding holds
never-unequal h = let e : false ≡ true = h in cc

always-equal : holds W64 Eq 0 0 ≡ true
unfolding holds
always-equal = refl

module _ (list : List RowOp) (k value : ℕ) where
  -- they are lanes where the value isn't 0
  pub of_test : (mask second : ℕ) → slice_get list k ≡ Some (Holds mask W64 Ne value second) →
      slice_get list second ≡ Some (Number 0) → IsNonzeroIn list k value
  of_test mask second is number = record {
    never = λ index caller words values are there same.
        let h = holds W64 Ne (slice_index values value) (slice_index values second) in
        let both = bit-true (is_in values mask && h) (slice_index values k)
        (are.each k (Holds mask W64 Ne value second) is) there in
        let none : slice_index values second ≡ 0 = are.each second (Number 0) number in
        never-unequal (rw (same, none) at (and_parts (is_in values mask) h both).1);
  }

  -- they aren't in a mask of the lanes where it is 0
  pub of_without : (mask other : ℕ) → slice_get list k ≡ Some (Without mask other) → IsNullTest list other mask value →
      IsNonzeroIn list k value
  of_without mask other is test = record {
    never = λ index caller words values are there zero.
        let one = is_in values mask in
        let two = is_in values other in
        let both = and_parts one (not two) (bit-true (one && not two) (slice_index values k) (are.each k (Without mask
        other) is) there) in
        test.never index caller words values are both.0 (not-true two both.1) zero;
  }

  -- the lanes of a mask where the value is 0
  pub of_null : (mask second : ℕ) → slice_get list k ≡ Some (Holds mask W64 Eq value second) →
      slice_get list second ≡ Some (Number 0) → IsNullTest list k mask value
  of_null mask second is number = record {
    never = λ index caller words values are within away same.
        let h = holds W64 Eq (slice_index values value) (slice_index values second) in
        let both = bit-false (is_in values mask && h) (slice_index values k)
        (are.each k (Holds mask W64 Eq value second) is) away in
        let none : slice_index values second ≡ 0 = are.each second (Number 0) number in
        let test : h ≡ true = rw (same, none) always-equal in
        let e : true ≡ false = sym (and_from (is_in values mask) h within test) ∙ both in
        absurd (cc);
  }

-- no mask
pub no-masks : (list : List RowOp) (value : ℕ) → AreNonzeroIn list [] value
no-masks list value = record { each = λ mask e. absurd (cc) }

-- one more
pub more-masks : (list : List RowOp) (masks : List Bool) (value : ℕ) (known : Bool) → AreNonzeroIn list masks value →
    (known ≡ true → IsNonzeroIn list (length masks) value) → AreNonzeroIn list (masks ++ known ∷ []) value
more-masks list masks value known are more = record {
  each = λ mask e. elim (get-more masks known true mask e) [
    | inl old ↦ are.each mask old
    | inr new ↦ let P : ℕ → Type 0 = λ k. IsNonzeroIn list k value in subst P (sym new.0) (more new.1)
  ];
}
