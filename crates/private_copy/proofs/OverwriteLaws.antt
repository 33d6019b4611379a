-- Words that are overwritten one after another.
use Rattle.std.proofs.Common.{◌≡◌, ℕ, ◌+◌, ◌*◌, ◌%◌, ◌<◌, ◌≤◌, List, length, set, Option, Some, None, inl, inr, refl}
use Rattle.std.proofs.Common.{sym, ◌∙◌, ap, arith, get_or-set_same, get_or-set_other}
use Rattle.std.{proofs.lemmas.Bool.{cases_eq}, specs.{Prelude.{Box, slice_index}, declared.alloc.Global.{Global}}}
use Rattle.std.specs.Option.{unwrap_or}
use Rattle.private_copy.specs.{declared.page.{Cell.{Cell}, Page.{Page}}, Cells.{PlacedPages, cell_at}}
use Rattle.private_copy.specs.{Shown.{last_in}, Overwriting.{AreOverwritten}}
use Rattle.private_copy.proofs.{PageLaws.{Slot, slot_cell}, CellLaws.{Reads}}

pub none_yet : (last : ℕ → Option ℕ) (words : List ℕ) → AreOverwritten last 0 words words
none_yet last words = record { inside = λ k below. absurd (omega (arith, below)); past = λ k above. refl }

pub one_more : (last : ℕ → Option ℕ) (n : ℕ) (old now : List ℕ) (value : ℕ) → n < length now
    → value ≡ unwrap_or (last n) (slice_index now n) → AreOverwritten last n old now
    → AreOverwritten last (n + 1) old (set now n value)
one_more last n old now value room is so_far = record {
  inside = λ k below. elim (cases_eq k n) [
    | inl same ↦ rw same
        (get_or-set_same now n value 0 room ∙ is ∙ ap (unwrap_or (last n)) (so_far.past n (omega arith)))
    | inr other ↦ get_or-set_other now n k value 0 other ∙ so_far.inside k (omega (arith, below, other))
  ];
  past = λ k above.
      get_or-set_other now n k value 0 (λ same. omega (arith, same, above)) ∙ so_far.past k (omega (arith, above));
}

-- the last values on a page, which is there or not
pub page_overwritten : (table : List Slot) (shown : PlacedPages) (page count : ℕ) (slot : Slot) (old new : List ℕ)
    → Reads table shown page slot → count ≤ 64 → AreOverwritten (λ k. last_in (slot_cell slot k)) count old new
    → AreOverwritten (λ k. last_in (cell_at shown (page * 64 + k))) count old new
page_overwritten table shown page count slot old new at few are = record {
  inside = λ k below.
      let place : (page * 64 + k) % 64 ≡ k = omega (arith, below, few) in
      are.inside k below
      ∙ ap (λ (c : Cell). unwrap_or (last_in c) (slice_index old k))
      (ap (slot_cell slot) (sym place) ∙ sym (at.cells (page * 64 + k) (omega (arith, below, few))));
  past = are.past;
}

pub default_none : (slot : Slot) → ((page : Box Page Global) → slot ≡ Some page → ⊥) → slot ≡ None
default_none None not_some = refl
default_none (Some page) not_some = absurd (not_some page refl)
