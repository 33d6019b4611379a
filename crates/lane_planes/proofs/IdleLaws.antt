-- Where no access is marked, nothing is marked.
use Rattle.std.proofs.Common.{◌≡◌, ℕ, ◌+◌, ◌-◌, ◌*◌, ◌/◌, ◌%◌, ◌^◌, ◌<◌, ◌≤◌, min, false, List, length, refl}
use Rattle.std.{proofs.Common.{sym, ◌∙◌, ap, inl, inr, arith}, specs.{Int.{bit_at}, Int.Bits.{or_zero_r, and_zero_r}}}
use Rattle.std.{specs.Prelude.{◌==◌, nat_lt, slice_index, slice_set}, proofs.lemmas.Bool.{cases_lt, cases_eq}}
use Rattle.std.proofs.lemmas.{Bool.Decides.{nat_tests}, List.{get_or-set_same, get_or-set_other}, Nat.{pow_pos}}
use Rattle.std.proofs.lemmas.Nat.Bits.{bit_at-zero, bit_at-lt, same_from_bits_below}
use Rattle.loop_core_model.specs.{Marks.{no_marks}, Planes.{bit_of}}
use Rattle.shadow_marks.specs.declared.planes.{FlowPlanes.{FlowPlanes}, Tested.{Tested, TheVariants.{Lrpd, Flow}}}
use Rattle.shadow_marks.{specs.declared.planes.Planes.{Planes}, proofs.ClearLaws.{unmarked_stand}}
use Rattle.shadow_marks.specs.Standing.{IsBitPlane, ArePlanes, AreTested, TestedStandAt, IsUnmarkedPage}
use Rattle.lane_planes.specs.{declared.kept.Kept.{Kept, TheVariants.{Lesser, Greater}}, Kept.{kept_of}}
use Rattle.lane_planes.specs.{Words.{HasBits, stands_at}, Merged.{Ored, WrittenByTwo, Keeps, MergedTested, MergedPages}}
use Rattle.lane_planes.specs.Merged.{StandForSome, NumbersFit}
use Rattle.lane_planes.proofs.{PageLaws.{merged_on}, Writing.{writes_same}}

unset : (x : ℕ) → x < 2 → (x == 1) ≡ false → x ≡ 0
unset x small h = grind (arith, nat_tests)

-- a page whose elements have no marks
module _ (elements page : ℕ) where
  clear_plane : (words : List ℕ) → IsBitPlane elements words → ((e : ℕ) → e / 64 ≡ page → e < elements
      → bit_of words e ≡ false) → slice_index words page < 2 ^ 64 → slice_index words page ≡ 0
  clear_plane words whole each fits =
      same_from_bits_below 64 (slice_index words page) 0 fits (omega arith) (λ k small.
      let here : (64 * page + k) / 64 ≡ page = omega arith in
      let place : (64 * page + k) % 64 ≡ k = omega arith in
      let none : bit_of words (64 * page + k) ≡ false = elim (cases_lt (64 * page + k) elements) [
        | inl below ↦ each (64 * page + k) here below
        | inr out ↦ whole.past (64 * page + k) out
      ] in
      unset (bit_at (slice_index words page) k) (bit_at-lt (slice_index words page) k) (rw (here, place) at none)
      ∙ sym (bit_at-zero k))

  ored_idle : (mine theirs : List ℕ) → slice_index theirs page ≡ 0 → Ored page (page + 1) mine theirs mine
  ored_idle mine theirs zero = writes_same _ page (page + 1) mine (λ i late within.
      let here : i ≡ page = omega arith in
      rw (here, zero, or_zero_r (slice_index mine page)) refl)

  two_idle : (mine theirs written also : List ℕ) → slice_index theirs page ≡ 0 → slice_index also page ≡ 0
      → WrittenByTwo page (page + 1) mine theirs written also mine
  two_idle mine theirs written also zero none = writes_same _ page (page + 1) mine (λ i late within.
      let here : i ≡ page = omega arith in
      rw (here, zero, none, and_zero_r (slice_index written page)) (sym (simp or_zero_r)))

  keeps_idle : (kept : Kept) (mine theirs : List ℕ) → length mine ≡ length theirs
      → ((e : ℕ) → 64 * page ≤ e → e / 64 ≡ page → e < length theirs
      → slice_index mine e ≡ kept_of kept (slice_index mine e) (slice_index theirs e))
      → Keeps kept page (page + 1) mine theirs mine
  keeps_idle kept mine theirs same idle =
      writes_same _ (64 * page) (min (64 * (page + 1)) (length mine)) mine
      (λ e late within. idle e late (omega arith) (omega arith))

  tested_idle : (mine theirs mid : Tested) → AreTested elements mine → AreTested elements theirs → 64 * page ≤ elements
      → NumbersFit mine → NumbersFit theirs → ((e : ℕ) → e / 64 ≡ page → e < elements
      → TestedStandAt theirs e no_marks) → MergedTested 0 page mine theirs mid
      → MergedTested page (page + 1) mid theirs mid
  tested_idle (Lrpd mine) (Lrpd theirs) (Lrpd mid) a b start fit fits stand before =
      let written = clear_plane _ b.written (λ e here below. (stand e here below).written) (fits.written page) in
      record {
        written = ored_idle _ _ written;
        written_by_two = two_idle _ _ _ _ (clear_plane _ b.written_by_two
            (λ e here below. (stand e here below).written_by_two) (fits.written_by_two page)) written;
        read_only = ored_idle _ _ (clear_plane _ b.read_only (λ e here below. (stand e here below).read_only)
            (fits.read_only page));
        read_and_written = ored_idle _ _ (clear_plane _ b.read_and_written
            (λ e here below. (stand e here below).read_and_written) (fits.read_and_written page));
      }
  tested_idle (Flow mine) (Flow theirs) (Flow mid) a b start fit fits stand before = record {
    first = keeps_idle Lesser _ _ (before.first.long ∙ a.first ∙ sym b.first)
        (λ e late here inside.
        let small = fit.first e in
        let was = before.first.above e (omega arith) in
        let none : slice_index theirs.first.items e ≡ 4294967295 = (stand e here (rw b.first at inside)).first in
        omega (arith, small, was));
    last = keeps_idle Greater _ _ (before.last.long ∙ a.last ∙ sym b.last)
        (λ e late here inside.
        let none : slice_index theirs.last.items e ≡ 0 = (stand e here (rw b.last at inside)).last in
        omega arith);
  }
  tested_idle _ _ _ a b start fit fits stand before = absurd before

-- a page in which no iteration marked anything is merged as it stands
pub merged_idle : (page : ℕ) (mine theirs mid : Planes) → ArePlanes mine → StandForSome theirs
    → IsUnmarkedPage theirs page → mine.elements ≡ theirs.elements → 64 * page ≤ mine.elements
    → NumbersFit mine.tested → NumbersFit theirs.tested →
    MergedPages 0 page mine theirs mid → MergedPages 0 (page + 1) mine theirs mid
merged_idle page mine theirs mid a some untouched same start fit fits before =
    merged_on page (page + 1) (omega arith) mine theirs mid mid a start before (record {
      elements = refl;
      plain = ored_idle mine.elements page _ _ untouched.plain;
      operators = λ op. ored_idle mine.elements page _ _ (untouched.by op);
      tested = tested_idle mine.elements page mine.tested theirs.tested mid.tested a.tested
          (rw (← same) at some.stand.whole.tested) start fit fits
          (λ e here below. (unmarked_stand theirs page e (some.visits e) untouched here
          (some.stand.marks e (rw same at below))).tested) before.tested;
    })

-- so none of its elements has a first writer before a last reader
none_below : (first : ℕ) → nat_lt first (0 - 1) ≡ false
none_below first = grind arith

pub untouched_word : (planes : Planes) (flow : FlowPlanes) (page : ℕ) → planes.tested ≡ Flow flow → StandForSome planes
    → IsUnmarkedPage planes page →
    HasBits (min (length flow.first.items - 64 * page) 64) (λ k. stands_at flow.first.items flow.last.items
    (64 * page + k)) 0
untouched_word planes flow page is some untouched = record {
  below = pow_pos (min (length flow.first.items - 64 * page) 64);
  each = λ k small.
      let long : length flow.first.items ≡ planes.elements = (rw is at some.stand.whole.tested).first in
      let none : TestedStandAt (Flow flow) (64 * page + k) no_marks =
      rw is at (unmarked_stand planes page (64 * page + k) (some.visits (64 * page + k)) untouched (omega arith)
      (some.stand.marks (64 * page + k) (omega arith))).tested in
      ap (λ x. x == 1) (bit_at-zero k)
      ∙ sym (rw none.last (none_below (slice_index flow.first.items (64 * page + k))));
}

-- a page more
abbrev page_word : (first last : List ℕ) (page word : ℕ) → Type 0
page_word first last page word = HasBits (min (length first - 64 * page) 64) (λ k. stands_at first last (64 * page + k))
    word

pub page_more : (first last words : List ℕ) (page word : ℕ) → page < length words
    → ((i : ℕ) → i < page → page_word first last i (slice_index words i)) → page_word first last page word →
    (i : ℕ) → i < page + 1 → page_word first last i (slice_index (slice_set words page word) i)
page_more first last words page word room before here i small = elim (cases_eq i page) [
  | inl same ↦ rw (same, get_or-set_same words page word 0 room) here
  | inr other ↦ rw (get_or-set_other words page i word 0 other) (before i (omega arith))
]
