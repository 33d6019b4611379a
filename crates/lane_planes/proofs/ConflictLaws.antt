-- A plane of conflicts says what the marks tell.
use Rattle.std.proofs.Common.{◌≡◌, ℕ, ◌+◌, ◌-◌, ◌*◌, ◌/◌, ◌%◌, ◌<◌, ◌≤◌, min, false, List, inl, inr}
use Rattle.std.{proofs.Common.{length, sym, ◌∙◌, ap, arith}}
use Rattle.std.{specs.Prelude.{◌==◌, ◌&&◌, ◌||◌, not, nat_lt, slice_index}, proofs.Math.Bool.{and_comm}}
use Rattle.std.proofs.lemmas.{Bool.{cases_lt, Decides.{nat_tests}}, List.{get_or_past}}
use Rattle.std.proofs.lemmas.{Nat.Bits.{bit_at-zero, bit_at_above}}
use Rattle.loop_core_model.specs.Marks.{Marks, marks_of, first_number, marked_reduction, marked_fails}
use Rattle.loop_core_model.specs.{Marks.{marked_conflict}, Planes.{bit_of}}
use Rattle.loop_core_model.proofs.{MarkLaws.{first_is_number}, PlaneLaws.{plane_has_elements}}
use Rattle.shadow_marks.specs.declared.planes.{Tested.{Tested, TheVariants.{Lrpd, Flow}}, Planes.{Planes}}
use Rattle.shadow_marks.specs.declared.planes.LrpdPlanes.{LrpdPlanes}
use Rattle.shadow_marks.specs.Standing.{ArePlanes, AreTested, StandAt, TestedStandAt, test_of, words_for}
use Rattle.lane_planes.specs.{Merged.{NumbersFit}}
use Rattle.lane_planes.specs.Conflicts.{lrpd_word, words_by, FailingWords, OperatorWordsFit, ConflictWords}
use Rattle.lane_planes.specs.Conflicts.{IsConflictPlane}
use Rattle.lane_planes.proofs.{BitMeaning.{bit, bit-and}, MergeLaws.{either_bit}}
use Rattle.lane_planes.proofs.ReductionLaws.{marked_bit, clear_bit}

-- a number isn't below one less than zero
later : (first last : ℕ) → nat_lt first (last - 1) ≡ (not (last == 0) && nat_lt first (last - 1))
later first last = grind (arith, nat_tests)

-- a bit of a word where the LRPD test fails
lrpd_bit : (planes : LrpdPlanes) (e : ℕ) → bit (lrpd_word planes (e / 64)) (e % 64)
    ≡ ((bit_of planes.read_only.items e && bit_of planes.written.items e)
    || (bit_of planes.read_and_written.items e && bit_of planes.written_by_two.items e))
lrpd_bit planes e =
    either_bit _ _ (e % 64) _ _
    (bit-and (slice_index planes.read_only.items (e / 64)) (slice_index planes.written.items (e / 64)) (e % 64))
    (bit-and (slice_index planes.read_and_written.items (e / 64)) (slice_index planes.written_by_two.items (e / 64))
    (e % 64))

failing_at : (elements many e : ℕ) (tested : Tested) (failing : List ℕ) (marks : Marks) → e < elements
    → many ≡ words_for elements → AreTested elements tested → NumbersFit tested →
    FailingWords tested many failing → TestedStandAt tested e marks → bit_of failing e ≡ marked_fails (test_of tested)
    marks
failing_at elements many e (Lrpd planes) failing marks below words whole fit fails at =
    rw (fails.each (e / 64) (omega (arith, words))) (lrpd_bit planes e
    ∙ (λ i. (at.read_only i && at.written i) || (at.read_and_written i && at.written_by_two i)))
failing_at elements many e (Flow planes) failing marks below words whole fit fails at =
    let long : length planes.first.items ≡ elements = whole.first in
    let here : 64 * (e / 64) + e % 64 ≡ e = omega arith in
    let last_fits = fit.last e in
    let last_is : slice_index planes.last.items e ≡ marks.last = at.last in
    (fails.each (e / 64) (omega (arith, words))).each (e % 64) (omega arith)
    ∙ rw (here, at.first, last_is) (later (first_number marks.first) marks.last
    ∙ sym (first_is_number.before marks.first marks.last (omega arith)))

-- past the end no test fails
failing_past : (elements many e : ℕ) (tested : Tested) (failing : List ℕ) → elements ≤ e → e / 64 < many
    → AreTested elements tested → FailingWords tested many failing → bit_of failing e ≡ false
failing_past elements many e (Lrpd planes) failing out within whole fails =
    rw (fails.each (e / 64) within) (lrpd_bit planes e
    ∙ (λ i. (whole.read_only.past e out i && bit_of planes.written.items e)
    || (whole.read_and_written.past e out i && bit_of planes.written_by_two.items e)))
failing_past elements many e (Flow planes) failing out within whole fails =
    let long : length planes.first.items ≡ elements = whole.first in
    ap (λ x. x == 1) (bit_at_above (slice_index failing (e / 64)) (min (length planes.first.items - 64 * (e / 64)) 64)
    (e % 64) (fails.each (e / 64) within).below (omega arith))

module _ (planes : Planes) (words : List ℕ) (whole : ArePlanes planes) (long : length words ≡ words_for planes.elements)
    (are : ConflictWords planes words) where
  conflict_at : OperatorWordsFit planes (length words) → NumbersFit planes.tested → (e : ℕ) (marks : Marks)
      → e < planes.elements → StandAt planes e marks → bit_of words e ≡ marked_conflict (test_of planes.tested) marks
  conflict_at words_fit numbers_fit e marks below at =
      let within : e / 64 < length words = omega (arith, below, long) in
      rw (are.each (e / 64) within) (marked_bit planes (slice_index are.failing (e / 64)) e marks
      (words_fit (e / 64) within) at
      ∙ ap (λ b. b && not (marked_reduction marks)) (failing_at planes.elements (length words) e planes.tested
      are.failing marks below long whole.tested numbers_fit are.fails at.tested)
      ∙ and_comm (marked_fails (test_of planes.tested) marks) (not (marked_reduction marks)))

  conflict_past : (e : ℕ) → planes.elements ≤ e → bit_of words e ≡ false
  conflict_past e out = elim (cases_lt (e / 64) (length words)) [
    | inl within ↦
        rw (are.each (e / 64) within) (clear_bit (slice_index are.failing (e / 64))
        (slice_index planes.plain.items (e / 64)) (words_by planes.operators (e / 64)) (e % 64)
        (failing_past planes.elements (length words) e planes.tested are.failing out within whole.tested are.fails))
    | inr beyond ↦ rw (get_or_past words (e / 64) 0 beyond) (ap (λ x. x == 1) (bit_at-zero (e % 64)))
  ]

  pub conflict_plane : OperatorWordsFit planes (length words) → NumbersFit planes.tested → IsConflictPlane planes words
  conflict_plane words_fit numbers_fit = record {
    words = are;
    marks = conflict_at words_fit numbers_fit;
    plane = record { count = long; past = conflict_past };
    elements = λ visits stand. plane_has_elements words
        (λ e. marked_conflict (test_of planes.tested) (marks_of (visits e))) planes.elements (omega arith)
        (λ e below. conflict_at words_fit numbers_fit e (marks_of (visits e)) below (stand.marks e below))
        (λ e out within. conflict_past e out);
  }
