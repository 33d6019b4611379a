-- Merged planes have merged marks.
use Rattle.std.proofs.Common.{◌≡◌, ℕ, ◌*◌, ◌/◌, ◌%◌, ◌<◌, min, Bool, List, length, refl, sym, ◌∙◌}
use Rattle.std.{proofs.Common.{arith}, specs.Prelude.{◌&&◌, ◌||◌, bit_and, bit_or}}
use Rattle.loop_core_model.specs.{Marks.{Marks, merged}, Planes.{bit_of}}
use Rattle.loop_core_model.proofs.MarkLaws.{first_is_number}
use Rattle.shadow_marks.specs.declared.planes.{Tested.{Tested, TheVariants.{Lrpd, Flow}}, Planes.{Planes}}
use Rattle.shadow_marks.specs.Standing.{ArePlanes, AreTested, StandAt, TestedStandAt, words_for}
use Rattle.lane_planes.specs.Merged.{Ored, NumbersFit, MergedPlanes, MergedTested}
use Rattle.lane_planes.proofs.BitMeaning.{bit, bit-and, bit-or}

-- a bit of two words ored, and of two pairs
pub either_bit : (x y k : ℕ) (p q : Bool) → bit x k ≡ p → bit y k ≡ q → bit (bit_or x y) k ≡ (p || q)
either_bit x y k p q is_p is_q = bit-or x y k ∙ (λ i. is_p i || is_q i)

pub two_bit : (x y z w k : ℕ) (p q r s : Bool) → bit x k ≡ p → bit y k ≡ q → bit z k ≡ r → bit w k ≡ s
    → bit (bit_or (bit_or x y) (bit_and z w)) k ≡ ((p || q) || (r && s))
two_bit x y z w k p q r s is_p is_q is_r is_s =
    either_bit (bit_or x y) (bit_and z w) k _ _ (either_bit x y k p q is_p is_q)
    (bit-and z w k ∙ (λ i. is_r i && is_s i))

ored_at : (many : ℕ) (mine theirs joined : List ℕ) (e : ℕ) (p q : Bool) → e / 64 < many
    → Ored 0 many mine theirs joined → bit_of mine e ≡ p → bit_of theirs e ≡ q → bit_of joined e ≡ (p || q)
ored_at many mine theirs joined e p q within ored is_p is_q =
    rw (ored.written (e / 64) (omega arith) within) (either_bit _ _ (e % 64) p q is_p is_q)

tested_at : (elements e : ℕ) (mine theirs joined : Tested) (a b : Marks) → e < elements → AreTested elements mine
    → MergedTested 0 (words_for elements) mine theirs joined →
    NumbersFit mine → NumbersFit theirs → TestedStandAt mine e a → TestedStandAt theirs e b
    → TestedStandAt joined e (merged a b)
tested_at elements e (Lrpd mine) (Lrpd theirs) (Lrpd joined) a b below whole words fit_a fit_b at_a at_b =
    let word : e / 64 < words_for elements = omega arith in
    let many = words_for elements in
    record {
      written = ored_at many _ _ _ e _ _ word words.written at_a.written at_b.written;
      written_by_two = rw (words.written_by_two.written (e / 64) (omega arith) word) (two_bit _ _ _ _ (e % 64) _ _ _ _
          at_a.written_by_two at_b.written_by_two at_a.written at_b.written);
      read_only = ored_at many _ _ _ e _ _ word words.read_only at_a.read_only at_b.read_only;
      read_and_written = ored_at many _ _ _ e _ _ word words.read_and_written at_a.read_and_written
          at_b.read_and_written;
    }
tested_at elements e (Flow mine) (Flow theirs) (Flow joined) a b below whole words fit_a fit_b at_a at_b =
    let in_first : e < min (64 * words_for elements) (length mine.first.items) = let n = whole.first in omega arith in
    let in_last : e < min (64 * words_for elements) (length mine.last.items) = let n = whole.last in omega arith in
    record {
      first = words.first.written e (omega arith) in_first ∙ rw (at_a.first, at_b.first)
          (sym (first_is_number.lesser_is a.first b.first (rw at_a.first at (fit_a.first e))
          (rw at_b.first at (fit_b.first e))));
      last = words.last.written e (omega arith) in_last ∙ rw (at_a.last, at_b.last) refl;
    }
tested_at elements e _ _ _ a b below whole words fit_a fit_b at_a at_b = absurd words

pub merged_at : (mine theirs joined : Planes) → ArePlanes mine → MergedPlanes mine theirs joined
    → NumbersFit mine.tested → NumbersFit theirs.tested →
    (e : ℕ) (a b : Marks) → e < mine.elements → StandAt mine e a → StandAt theirs e b → StandAt joined e (merged a b)
merged_at mine theirs joined whole words fit_a fit_b e a b below at_a at_b =
    let many = words_for mine.elements in
    let word : e / 64 < words_for mine.elements = omega arith in
    record {
      plain = ored_at many _ _ _ e _ _ word words.plain at_a.plain at_b.plain;
      by = λ op. ored_at many _ _ _ e _ _ word (words.operators op) (at_a.by op) (at_b.by op);
      tested = tested_at mine.elements e mine.tested theirs.tested joined.tested a b below whole.tested words.tested
          fit_a fit_b at_a.tested at_b.tested;
    }
