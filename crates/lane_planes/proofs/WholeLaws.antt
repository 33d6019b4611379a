-- Merged planes are whole, and stand for what both stood for.
use Rattle.std.proofs.Common.{◌≡◌, ℕ, ◌/◌, ◌%◌, ◌<◌, ◌≤◌, false, List, refl, ◌∙◌, inl, inr}
use Rattle.std.{proofs.lemmas.Bool.{cases_lt}}
use Rattle.shadow_marks.specs.declared.planes.{Tested.{Tested}, Planes.{Planes}}
use Rattle.shadow_marks.specs.{declared.planes.Tested.TheVariants.{Lrpd, Flow}, Ending.{KeepsShape}}
use Rattle.shadow_marks.specs.Standing.{IsBitPlane, ArePlanes, AreTested, test_of, words_for}
use Rattle.lane_planes.specs.{Writes.{Writes}, Merged.{Ored, NumbersFit, MergedPages, MergedPlanes}}
use Rattle.lane_planes.{specs.Merged.{MergedTested, IsMerge}, proofs.BitMeaning.{bit}}
use Rattle.loop_core_model.{specs.Marks.{marks_of}, proofs.MarkLaws.{marks_merge}}
use Rattle.lane_planes.proofs.MergeLaws.{either_bit, two_bit, merged_at}

module _ (elements at upto : ℕ) where
  -- planes of which a rule gives some words are whole where it sets no bit past the end
  written_whole : {rule : ℕ → ℕ} {mine joined : List ℕ} → IsBitPlane elements mine → Writes rule at upto mine joined
      → ((e : ℕ) → elements ≤ e → bit (rule (e / 64)) (e % 64) ≡ false) → IsBitPlane elements joined
  written_whole {rule} {mine} {joined} a words none = record {
    count = words.long ∙ a.count;
    past = λ e out. elim (cases_lt (e / 64) at) [
      | inl low ↦ rw (words.below (e / 64) low) (a.past e out)
      | inr late ↦ elim (cases_lt (e / 64) upto) [
        | inl within ↦ rw (words.written (e / 64) late within) (none e out)
        | inr beyond ↦ rw (words.above (e / 64) beyond) (a.past e out)
      ]
    ];
  }

  ored_whole : {mine theirs joined : List ℕ} → IsBitPlane elements mine → IsBitPlane elements theirs
      → Ored at upto mine theirs joined → IsBitPlane elements joined
  ored_whole a b ored = written_whole a ored
      (λ e out. either_bit _ _ (e % 64) false false (a.past e out) (b.past e out))

  tested_whole : (mine theirs joined : Tested) → AreTested elements mine → AreTested elements theirs
      → MergedTested at upto mine theirs joined → AreTested elements joined × (test_of joined ≡ test_of mine)
  tested_whole (Lrpd mine) (Lrpd theirs) (Lrpd joined) a b words = (
    record {
      written = ored_whole a.written b.written words.written;
      written_by_two = written_whole a.written_by_two words.written_by_two (λ e out.
          two_bit _ _ _ _ (e % 64) false false false false (a.written_by_two.past e out) (b.written_by_two.past e out)
          (a.written.past e out) (b.written.past e out));
      read_only = ored_whole a.read_only b.read_only words.read_only;
      read_and_written = ored_whole a.read_and_written b.read_and_written words.read_and_written;
    },
    refl,
  )
  tested_whole (Flow mine) (Flow theirs) (Flow joined) a b words =
      (record { first = words.first.long ∙ a.first; last = words.last.long ∙ a.last }, refl)
  tested_whole _ _ _ a b words = absurd words

pub merge_keeps : (at upto : ℕ) (mine theirs joined : Planes) → ArePlanes mine → ArePlanes theirs
    → mine.elements ≡ theirs.elements → MergedPages at upto mine theirs joined → KeepsShape mine joined
merge_keeps at upto mine theirs joined a b same words =
    let tested = tested_whole mine.elements at upto mine.tested theirs.tested joined.tested a.tested
    ((rw (← same) at b.tested)) words.tested in
    record {
      whole = record {
        plain = rw words.elements (ored_whole mine.elements at upto a.plain ((rw (← same) at b.plain)) words.plain);
        by = λ op. rw words.elements
            (ored_whole mine.elements at upto (a.by op) ((rw (← same) at (b.by op))) (words.operators op));
        tested = rw words.elements tested.0;
      };
      elements = words.elements;
      test = tested.1;
    }

-- and where both stood for visits, they stand for the visits of both
pub merges : (mine theirs joined : Planes) → ArePlanes mine → ArePlanes theirs → mine.elements ≡ theirs.elements
    → NumbersFit mine.tested → NumbersFit theirs.tested → MergedPlanes mine theirs joined → IsMerge mine theirs joined
merges mine theirs joined a b same fit_a fit_b words =
    let shape = merge_keeps 0 (words_for mine.elements) mine theirs joined a b same words in
    let marks = merged_at mine theirs joined a words fit_a fit_b in
    record {
      words = words;
      shape = shape;
      marks = marks;
      visits = λ xs ys for_mine for_theirs. record {
        whole = shape.whole;
        marks = λ e small.
            let below : e < mine.elements = rw words.elements at small in
            rw (marks_merge.both (xs e) (ys e)) (marks e (marks_of (xs e)) (marks_of (ys e)) below
            (for_mine.marks e below) (for_theirs.marks e (rw same at below)));
      };
    }
