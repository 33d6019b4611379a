-- The cells of elements, as pages keep them.
use Rattle.std.specs.Prelude.{◌≡◌, ℕ, ◌/◌, ◌%◌, Box, List, length, map, replicate, slice_index, slice_index_or, Option}
use Rattle.std.specs.{Prelude.{Some, None}, List.{range_with_len}, declared.alloc.Global.{Global}}
use Rattle.private_copy.specs.declared.reduction.Reduction.{Reduction, TheVariants.{Mixed as MixedReduction}}
use Rattle.private_copy.specs.declared.reduction.Reduction.TheVariants.{Untouched as NoReduction, By as ReducedBy}
use Rattle.private_copy.specs.declared.page.{Combining.{Combining, TheVariants.{Untouched, By, Mixed}}, Cell.{Cell}}
use Rattle.private_copy.specs.declared.page.Page.{Page}

-- the cell of an element that wasn't accessed
abbrev pub blank : Cell
blank = record { value = 0; combined = 0; writer = 0; combining = Untouched }

-- the same cell, with a plain access of the element noted
abbrev pub mixed_cell : Cell → Cell
mixed_cell cell = record { value = cell.value; combined = cell.combined; writer = cell.writer; combining = Mixed }

-- how a cell keeps what reduces combined: by which operator, and the operands combined
abbrev pub combining_of : Reduction → Combining
combining_of NoReduction = Untouched
combining_of (ReducedBy op combined) = By op
combining_of MixedReduction = Mixed

abbrev pub combined_of : Reduction → ℕ
combined_of NoReduction = 0
combined_of (ReducedBy op combined) = combined
combined_of MixedReduction = 0

-- the cell of an element at which the iteration of a number left a value, with what its reduces combined
abbrev pub left_cell : (value number : ℕ) → Reduction → Cell
left_cell value number reduction = record {
  value = value;
  combined = combined_of reduction;
  writer = number;
  combining = combining_of reduction;
}

-- what reduces combined
abbrev pub reduction_by : Combining → ℕ → Reduction
reduction_by Untouched combined = NoReduction
reduction_by (By op) combined = ReducedBy op combined
reduction_by Mixed combined = MixedReduction

-- what the reduces of a cell's element combined
abbrev pub reduction_in : Cell → Reduction
reduction_in cell = reduction_by cell.combining cell.combined

-- the cell of a page at a place: its entry in each column
abbrev pub cell_in : Page → ℕ → Cell
cell_in page k = record {
  value = slice_index page.values k;
  combined = slice_index page.combined k;
  writer = slice_index page.writers k;
  combining = slice_index_or page.combining k Untouched;
}

-- the first n of its cells
unfoldable pub first_cells : Page → ℕ → List Cell
first_cells page n = map (cell_in page) (range_with_len 0 n)

-- 64 blank cells
abbrev pub blank_cells : List Cell
blank_cells = replicate 64 blank

-- the cells of a page, which is there or not
abbrev pub cells_of : Option (Box Page Global) → List Cell
cells_of None = blank_cells
cells_of (Some page) = first_cells page.value 64

-- a page of blank cells
abbrev pub blank_page : Page
blank_page = record {
  values = replicate 64 0;
  combined = replicate 64 0;
  writers = replicate 64 0;
  combining = replicate 64 Untouched;
}

-- a page that is there is blank
abbrev pub IsBlank : Option (Box Page Global) → Type 0
IsBlank None = ⊥
IsBlank (Some page) = page.value ≡ blank_page

-- Pages, as contracts see them: the cells of all, whether they are placed or not; the numbers of those that were
-- placed, in order; and how many more can be placed
pub record PlacedPages : Type 0 where
  pub pages : List (List Cell)
  pub order : List ℕ
  pub spare : ℕ

-- how many pages there are
abbrev pub total_of : PlacedPages → ℕ
total_of placed = length placed.pages

-- the cell of an element
abbrev pub cell_at : PlacedPages → ℕ → Cell
cell_at placed e = slice_index_or (slice_index_or placed.pages (e / 64) blank_cells) (e % 64) blank
