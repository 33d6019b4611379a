-- Lanes that find at an access what was there before they changed anything.
use Rattle.std.proofs.Common.{◌≡◌, ℕ, zero, suc, ◌+◌, ◌<◌, Bool, true, false, if◌then◌else◌, List, [], ◌∷◌}
use Rattle.std.proofs.Common.{slice_index, refl, sym, ◌∙◌, subst, arith}
use Rattle.std.{specs.Prelude.{slice_get, Option, Some, None}, proofs.{Common.{inl, inr}, lemmas.Bool.{cases_Bool}}}
use Rattle.array_maps.specs.{Accesses.{words_after_all}, Halves.{part_of}, MapList.{AreWords}}
use Rattle.loop_core_model.specs.Effects.{Effect, deed_loads, deed_part, with_effect}
use Rattle.loop_core_model.proofs.Sparing.{FitsFor, fits_for, word_fits}
use Rattle.lane_rows.{specs.Places.{IsPlaceOf, element_at, place_of as place_by}, proofs.PlaceLaws.{is_place}}
use Rattle.lane_stamps.specs.{declared.site.Site.{Site}, Sites.{Covers, LaneRows, effect_by, is_of_halves}}
use Rattle.row_list.specs.{declared.row_op.RowOp.{RowOp}, Lanes.{row_accesses, run_words}}
use Rattle.row_list.specs.{Places.{is_access}, Rows.{IsRowValue, byte_at, is_in, row_access}}
use Rattle.row_list.specs.Rows.{row_effects, row_value}
use Rattle.row_list.proofs.{EffectLaws.{value_on}, ReadLaws.{no_access}}
use Rattle.row_facts.specs.{Meetings.{Touches, leaves, loads}, SiteKinds.{HasSite, kind_of}}
use Rattle.row_run.{specs.{Places.{place_of}, Sites.{value_of}}, proofs.SiteLaws.{does_op, kind_halves}}
use Rattle.row_run.proofs.{ApartLaws.{half_of_byte, said}, OwnLaws.{spared}, SeenLaws.{IsSparedBy}}
use Rattle.loop_inspector.proofs.ActLaws.{KindIfAccess, acts_alike}

module _ (values words : List ℕ) where
  -- the place of a lane's access, and what it does there, if it makes it
  abbrev place : RowOp → ℕ
  place op = place_by (place_of op).width (byte_at values (place_of op))

  abbrev number : RowOp → ℕ
  number op = slice_index values (value_of op)

  abbrev done : RowOp → Effect
  done op = effect_by (kind_of op) (place op) (number op)

  abbrev made : RowOp → Option Effect
  made op = if is_in values (place_of op).mask then Some (done op) else None

  abbrev count : RowOp → ℕ
  count op = element_at (place_of op).width (place op) + 1

  placed : (op : RowOp) → IsPlaceOf (place_of op).width (count op) (byte_at values (place_of op)) (place op)
  placed op = is_place (place_of op).width (count op) (byte_at values (place_of op)) (place op) refl (omega arith)

  does : (op : RowOp) → HasSite op → row_effects op values words ≡ with_effect (made op) []
  does op has =
      sym (does_op op has values words (count op) (place op) (number op) (is_in values (place_of op).mask) refl
      (λ here. placed op) (λ here leaving. refl))

  -- it touches the halves of its place
  touches : (op : RowOp) (half : ℕ) → HasSite op → is_in values (place_of op).mask ≡ true
      → Covers (is_of_halves (kind_of op)) (place op) half → Touches op values half
  touches op half has here covers = record {
    place = place_of op;
    is = (said op has).place;
    there = here;
    covers = half_of_byte (place_of op).width (count op) (byte_at values (place_of op)) (place op) half (placed op)
        (subst (λ (halves : Bool). Covers halves (place op) half) (kind_halves op has) covers);
  }

  -- two accesses as those of two sites
  abbrev rows : (by at : RowOp) → LaneRows
  rows by at = record {
    rows = record { line = None; lanes = number by ∷ [] } ∷ record { line = None; lanes = number at ∷ [] } ∷ [];
    masks = [];
    places = record { line = None; lanes = place by ∷ [] } ∷ record { line = None; lanes = place at ∷ [] } ∷ [];
  }

  abbrev site : RowOp → (k : ℕ) → Site
  site op k = record { kind = kind_of op; rank = 0; watched = false; mask = 0; places = k; value = k }

  -- no half is loaded at one access that is left at another
  abbrev pub IsApart : (at by : RowOp) → Type 0
  IsApart at by = leaves by ≡ true → loads at ≡ true → (half : ℕ) → Touches at values half → Touches by values half → ⊥

  -- what is loaded is as it was at first
  record Finds (at : RowOp) (now : List ℕ) : Type 0 where
    finds : deed_loads (done at).deed ≡ true → (part_of (deed_part (done at).deed) (slice_index now (done at).element)
        ≡ part_of (deed_part (done at).deed) (slice_index words (done at).element))
        × FitsFor (deed_part (done at).deed) (slice_index now (done at).element)

  module _ (at : RowOp) (has_at : HasSite at) (there : is_in values (place_of at).mask ≡ true) where
    after : (by : RowOp) → KindIfAccess by → IsApart at by → (now : List ℕ) → Finds at now
        → Finds at (words_after_all (row_accesses by values now) now)
    after by has apart now before = rw (acts_alike by has values words now) (elim (cases_Bool (is_access by)) [
      | inl is ↦ rw (does by (has is)) (elim (cases_Bool (is_in values (place_of by).mask)) [
        | inl in_mask ↦ rw in_mask (record {
          finds = λ loaded.
              let old = before.finds loaded in
              let free : IsSparedBy (done by) (done at) =
              spared (rows by at) 0 (site by 0) (site at 1) (λ left loading half covers other.
              apart ((said by (has is)).leaving ∙ left) ((said at has_at).loading ∙ loading) half
              (touches at half has_at there covers) (touches by half (has is) in_mask other)) in
              let kept = free.spares loaded now old.1 in (kept.0 ∙ old.0, kept.1);
        })
        | inr out ↦ rw out before
      ])
      | inr none ↦ rw (no_access by none values) before
    ])

    finds_on : (k : ℕ) (ops : List RowOp) (now : List ℕ)
        → ((j : ℕ) (by : RowOp) → j < k → slice_get ops j ≡ Some by → KindIfAccess by × IsApart at by)
        → Finds at now → Finds at (run_words ops values now k)
    finds_on zero ops now free before = before
    finds_on (suc k) [] now free before = before
    finds_on (suc k) (op ∷ ops) now free before =
        let one = free 0 op (omega arith) refl in
        finds_on k ops (words_after_all (row_accesses op values now) now)
        (λ j by less is. free (suc j) by (omega (arith, less)) is) (after op one.0 one.1 now before)

  -- so an access has the value that it has on the words from before
  pub finds_same : AreWords words → (index : ℕ) (caller : List ℕ) (list : List RowOp) (k : ℕ) (at : RowOp)
      → HasSite at → ((j : ℕ) (by : RowOp) → j < k → slice_get list j ≡ Some by → KindIfAccess by × IsApart at by)
      → (n : ℕ) → IsRowValue at index caller values words n
      → IsRowValue at index caller values (run_words list values words k) n
  finds_same fit index caller list k at has free n is =
      value_on words (run_words list values words k) [] (row_access at values) values (row_value at index caller
      values) n
      (rw (does at has) (elim (cases_Bool (is_in values (place_of at).mask)) [
        | inl there ↦ rw there (
          λ loaded. ((finds_on at has there k list words free (record {
            finds = λ loading. (
              refl,
              fits_for (deed_part (done at).deed) (slice_index words (done at).element)
                  (word_fits words (done at).element fit),
            );
          })).finds loaded).0,
          tt,
        )
        | inr out ↦ rw out tt
      ])) is
