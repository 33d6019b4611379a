-- The two steps of an access: it is admitted, and then its cell is kept.
use Rattle.std.specs.Prelude.{◌≡◌, ◌≢◌, ℕ, ◌+◌, ◌<◌, true}
use Rattle.loop_core_model.specs.{Flags.{flagged}, declared.access.Access.{Access as Kind}}
use Rattle.shadow_marks.specs.Iteration.{element_count, flags_at}
use Rattle.private_copy.specs.{declared.{page.Cell.{Cell}, private.Private.{Private}}, Cells.{cell_at}}
use Rattle.private_copy.specs.Touched.{has_page, with_page, page_of}

-- an access of this kind was counted and marked, and the page of its element is placed; no cell has changed
pub record IsAdmitted (old : Private) (e : ℕ) (kind : Kind) (new : Private) : Type 0 where
  pub start : new.start.now ≡ old.start.now
  pub cells : new.pages.pages ≡ old.pages.pages
  pub pages : new.pages.order ≡ with_page old.pages.order (page_of e)
  pub placed : has_page new.pages.order (page_of e) ≡ true
  pub mark : flags_at new.flags e ≡ flagged (flags_at old.flags e) kind
  pub other_marks : (other : ℕ) → other ≢ e → flags_at new.flags other ≡ flags_at old.flags other
  pub elements : element_count new.flags ≡ element_count old.flags
  pub serves : new.serves + 1 ≡ old.serves
  pub begun : new.begun ≡ old.begun
  pub some : 0 < new.begun
  pub under_way : new.under_way ≡ old.under_way

-- the cell of an element is this, and all else is as it was
pub record CellIsSet (old : Private) (e : ℕ) (kept : Cell) (new : Private) : Type 0 where
  pub start : new.start.now ≡ old.start.now
  pub cell : cell_at new.pages e ≡ kept
  pub others : (other : ℕ) → other ≢ e → cell_at new.pages other ≡ cell_at old.pages other
  pub pages : new.pages.order ≡ old.pages.order
  pub flags : new.flags ≡ old.flags
  pub serves : new.serves ≡ old.serves
  pub begun : new.begun ≡ old.begun
  pub under_way : new.under_way ≡ old.under_way
