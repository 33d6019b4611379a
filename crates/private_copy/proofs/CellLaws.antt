-- The cells of pages in the table, after a page has changed.
use Rattle.std.proofs.Common.{◌≡◌, ◌≢◌, ℕ, ◌/◌, ◌%◌, ◌<◌, List, length, get_or, set, Some, None, inl, inr, refl}
use Rattle.std.{proofs.Common.{sym, ◌∙◌, ap, arith, get_or-set_same, get_or-set_other}, specs.Prelude.{Box}}
use Rattle.std.{specs.declared.alloc.Global.{Global}}
use Rattle.std.{proofs.lemmas.{Bool.{cases_eq}, List.{get_or_default, length-map}}}
use Rattle.private_copy.specs.{declared.{page.Page.{Page}, pages.Pages.TheInside.{Inside}}, Inside.{pages_in}}
use Rattle.private_copy.specs.Cells.{PlacedPages, total_of, cell_in, cells_of, cell_at}
use Rattle.private_copy.proofs.PageLaws.{Slot, cell_of, slot_cell, cell_of_slot}

-- a page was read from the table that shows these pages
pub record Reads (table : List Slot) (shown : PlacedPages) (page : ℕ) (slot : Slot) : Type 0 where
  pub within : page < length table
  pub was : get_or table page None ≡ slot
  pub cells : (e : ℕ) → e / 64 ≡ page → cell_at shown e ≡ slot_cell slot (e % 64)

pub reads : (inside : Inside) (shown : PlacedPages) (page : ℕ) (item slot : Slot) → pages_in inside ≡ shown
    → page < total_of shown → item ≡ get_or inside.table.items page item → item ≡ slot
    → Reads inside.table.items shown page slot
reads inside shown page item slot view low here is =
    let table : List Slot = inside.table.items in
    let within : page < length table = rw (← view, length-map table cells_of) at low in
    let was : get_or table page None ≡ slot = get_or_default table page None item within ∙ sym here ∙ is in
    record {
      within = within;
      was = was;
      cells = λ e on. ap (λ (v : PlacedPages). cell_at v e) (sym view) ∙ cell_of_slot table e
          ∙ ap (λ (s : Slot). slot_cell s (e % 64)) ((rw (← on) at was));
    }

-- where an element's page was read from the table and changes: its cell, the one after it, and those of other elements
pub record ShowsPage (table : List Slot) (shown : PlacedPages) (e : ℕ) (page : Page) : Type 0 where
  pub was : cell_in page (e % 64) ≡ cell_at shown e
  pub here : (new : Slot) → cell_of (set table (e / 64) new) e ≡ slot_cell new (e % 64)
  pub others : (new : Slot) → ((k : ℕ) → k ≢ e % 64 → slot_cell new k ≡ cell_in page k) → (other : ℕ) → other ≢ e
      → cell_of (set table (e / 64) new) other ≡ cell_at shown other

pub shows_page : (inside : Inside) (shown : PlacedPages) (e : ℕ) (item : Slot) (owner : Box Page Global) (page : Page)
    → pages_in inside ≡ shown → e / 64 < total_of shown → item ≡ get_or inside.table.items (e / 64) item
    → item ≡ Some owner → page ≡ owner.value → ShowsPage inside.table.items shown e page
shows_page inside shown e item owner page view low read is same =
    let table : List Slot = inside.table.items in
    let at = reads inside shown (e / 64) item (Some owner) view low read is in
    let in_page : (new : Slot) (other : ℕ) → other / 64 ≡ e / 64 → cell_of (set table (e / 64) new) other
    ≡ slot_cell new (other % 64) = λ new other on. cell_of_slot (set table (e / 64) new) other
    ∙ ap (λ (s : Slot). slot_cell s (other % 64)) (ap (λ (k : ℕ). get_or (set table (e / 64) new) k None) on
    ∙ get_or-set_same table (e / 64) new None at.within) in
    record {
      was = rw same (sym (at.cells e refl));
      here = λ new. in_page new e refl;
      others = λ new stay other differs. elim (cases_eq (other / 64) (e / 64)) [
        | inl on ↦
            in_page new other on ∙ stay (other % 64) (λ place. differs (omega (arith, on, place)))
            ∙ ap (λ (p : Page). cell_in p (other % 64)) same ∙ sym (at.cells other on)
        | inr another ↦
            cell_of_slot (set table (e / 64) new) other
            ∙ ap (λ (s : Slot). slot_cell s (other % 64)) (get_or-set_other table (e / 64) (other / 64) new None
            another)
            ∙ sym (cell_of_slot table other) ∙ ap (λ (v : PlacedPages). cell_at v other) view
      ];
    }
