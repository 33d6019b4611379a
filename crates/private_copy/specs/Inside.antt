-- What the private fields of pages stand for.
use Rattle.std.specs.Prelude.{◌≡◌, ℕ, ◌<◌, ◌≤◌, true, length, map, take, slice_index_or, None, is_some, nat_eq}
use Rattle.indexmap.specs.IndexSet.{contains}
use Rattle.private_copy.specs.{declared.pages.Pages.TheInside.{Inside}, Cells.{PlacedPages, cells_of, IsBlank}}
use Rattle.private_copy.specs.Touched.{has_page}

-- the pages
abbrev pub pages_in : Inside → PlacedPages
pages_in p = record {
  pages = map cells_of p.table.items;
  order = take p.placed p.order.keys;
  spare = length p.spare.items;
}

-- all numbers are there; there is a page in the table exactly where its number is among the placed ones; spare pages
-- are blank
pub record ArePages (p : Inside) : Type 0 where
  pub most : length p.table.items ≤ 1024
  pub numbers : length p.order.keys ≡ length p.table.items
  pub all : (page : ℕ) → page < length p.table.items → contains nat_eq p.order page ≡ true
  pub within : p.placed ≤ length p.order.keys
  pub placed : (page : ℕ) → page < length p.table.items →
      is_some (slice_index_or p.table.items page None) ≡ has_page (take p.placed p.order.keys) page
  pub blank : (k : ℕ) → k < length p.spare.items → IsBlank (slice_index_or p.spare.items k None)
