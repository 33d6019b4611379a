-- Pages that are kept as spare ones.
use Rattle.std.specs.{Prelude.{ℕ, ◌<◌, Box, List, length, slice_index_or, Option, None}, declared.alloc.Global.{Global}}
use Rattle.private_copy.specs.{declared.page.Page.{Page}, Cells.{IsBlank}}

-- all of them are there, and blank
abbrev pub AreSpare : List (Option (Box Page Global)) → Type 0
AreSpare pages = (k : ℕ) → k < length pages → IsBlank (slice_index_or pages k None)
