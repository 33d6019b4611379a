-- Lanes of a mask that all get to one element.
use Rattle.std.proofs.Common.{◌≡◌, ℕ, ◌+◌, ◌<◌, ◌&&◌, ◌==◌, if◌then◌else◌, min, max, Bool, true, false, List}
use Rattle.std.proofs.Common.{slice_index, refl, sym, ◌∙◌, arith}
use Rattle.loop_core_model.specs.Planes.{bit_of}
use Rattle.lane_rows.specs.{declared.mask.Mask.{Mask}, Rows.{is_in}}
use Rattle.shadow_marks.specs.Bits.{ChangesNumber, OrsBit}
use Rattle.loop_marks.specs.SiteMarks.{IsEnd, KeepsNumbers, SetsBits, is_at, kept, over_lanes, set_by_lane}
use Rattle.loop_marks.proofs.{UnseenLaws.{or_if}, OverLaws.{kept_merges, over_covered, over_none, set_merges}}

-- the least of the lanes' indexes is that of the first, and the greatest that of the last
covers : (does : ℕ → Bool) (greatest : Bool) (lanes index end : ℕ) → IsEnd does greatest lanes end → (a l : ℕ)
    → l < lanes → does l ≡ true → kept greatest index (kept greatest index a l) end ≡ kept greatest index a end
covers does true lanes index end is a l less there =
    let e : max (max a (index + l + 1)) (index + end + 1) ≡ max a (index + end + 1) =
    (let below = is.last refl l less there in omega (arith, below)) in e
covers does false lanes index end is a l less there =
    let e : min (min a (index + l)) (index + end) ≡ min a (index + end) =
    (let above = is.first refl l less there in omega (arith, above)) in e

pub kept_at_end : (does : ℕ → Bool) (greatest : Bool) (lanes index end old : ℕ) → IsEnd does greatest lanes end
    → over_lanes (kept greatest index) does lanes old ≡ kept greatest index old end
kept_at_end does greatest lanes index end old is =
    over_covered (kept greatest index) (kept_merges greatest index) does end lanes old is.there is.within
    (covers does greatest lanes index end is)

pub set_at_end : (does : ℕ → Bool) (greatest : Bool) (lanes end : ℕ) (old : Bool) → IsEnd does greatest lanes end
    → over_lanes set_by_lane does lanes old ≡ true
set_at_end does greatest lanes end old is =
    over_covered set_by_lane set_merges does end lanes old is.there is.within (λ a l less there. refl)

module _ (mask : Mask) (at lanes : ℕ) where
  -- what one lane changes, where all get to its element
  over_one : {A : Type 0} → (change : A → ℕ → A) → (end : ℕ) (e : ℕ) (old : A)
      → over_lanes change (is_in mask) lanes old ≡ change old end
      → over_lanes change (is_at mask at e) lanes old ≡ if e == at then change old end else old
  over_one {A} change end e old is = go (e == at)
    where
      go : (here : Bool) → over_lanes change (λ lane. here && is_in mask lane) lanes old
          ≡ if here then change old end else old
      go true = is
      go false = over_none change (λ lane. false) lanes old (λ lane less. refl)

  pub one_set : (end : ℕ) (old new : List ℕ) → IsEnd (is_in mask) false lanes end → OrsBit old new at true
      → SetsBits (is_at mask at) lanes old new
  one_set end old new is ors = record {
    count = ors.count;
    bits = λ e. ors.bits e ∙ sym (or_if (e == at) (bit_of old e))
        ∙ sym (over_one set_by_lane end e (bit_of old e)
        (set_at_end (is_in mask) false lanes end (bit_of old e) is));
  }

  pub one_kept : (greatest : Bool) (index end : ℕ) (old new : List ℕ) → IsEnd (is_in mask) greatest lanes end
      → ChangesNumber old new at (kept greatest index (slice_index old at) end)
      → KeepsNumbers greatest (is_at mask at) lanes index old new
  one_kept greatest index end old new is changes = record {
    count = changes.count;
    numbers = λ e. changed e
        ∙ sym (over_one (kept greatest index) end e (slice_index old e)
        (kept_at_end (is_in mask) greatest lanes index end (slice_index old e) is));
  }
    where
      changed : (e : ℕ) → slice_index new e
          ≡ if e == at then kept greatest index (slice_index old e) end else slice_index old e
      changed e = let here = changes.here in let others = changes.others e in grind (arith, here, others)
