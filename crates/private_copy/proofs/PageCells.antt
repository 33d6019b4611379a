-- The cells of a page are the entries of its columns.
use Rattle.std.proofs.Common.{◌≡◌, ℕ, ◌<◌, get_or, ap, arith}
use Rattle.std.proofs.lemmas.List.FromFn.{get_or-map-range_with_len}
use Rattle.private_copy.specs.{declared.page.{Cell.{Cell}, Page.{Page}}}
use Rattle.private_copy.specs.Cells.{blank, cell_in, first_cells, blank_cells, blank_page}

-- cells are equal where their parts are
pub same_parts : (a b : Cell) → a.value ≡ b.value → a.combined ≡ b.combined → a.writer ≡ b.writer
    → a.combining ≡ b.combining → a ≡ b
same_parts a b value combined writer combining = λ i. record {
  value = value i;
  combined = combined i;
  writer = writer i;
  combining = combining i;
}

pub first_cell_at : (page : Page) (n k : ℕ) → k < n → get_or (first_cells page n) k blank ≡ cell_in page k
unfolding first_cells
first_cell_at page n k below = get_or-map-range_with_len (cell_in page) 0 n k k blank below (omega arith)

-- a blank page has blank cells
pub blank_page_cells : (page : Page) → page ≡ blank_page → first_cells page 64 ≡ blank_cells
unfolding first_cells
blank_page_cells page is = ap (λ (p : Page). first_cells p 64) is
