-- What a copy's private fields show.
use Rattle.std.specs.Prelude.{◌≡◌, ℕ, ◌+◌, true, false, ◌==◌, if◌then◌else◌, map, length, slice_index, Option, Some}
use Rattle.std.specs.{Prelude.{None}, List.{range_with_len}}
use Rattle.private_copy.specs.{declared.{page.Cell.{Cell}, private.Private.{Private}}, Cells.{cell_at, reduction_in}}
use Rattle.private_copy.specs.Copies.{PrivateCopy}
use Rattle.shadow_marks.specs.Iteration.{element_count, IsEmptied}

-- what an iteration of a number sees of an element: what it wrote there, or the start word
abbrev pub seen_word : Cell → (number word : ℕ) → ℕ
seen_word cell number word = if cell.writer == number then cell.value else word

-- what the last iteration that writes an element left there
abbrev pub last_in : Cell → Option ℕ
last_in cell = if cell.writer == 0 then None else Some cell.value

-- the copy
abbrev pub copy_of : Private → PrivateCopy
copy_of p = record {
  start = p.start.now;
  words = map (λ e. seen_word (cell_at p.pages e) p.begun (slice_index p.start.now e))
      (range_with_len 0 (length p.start.now));
  flags = p.flags;
  last = λ e. last_in (cell_at p.pages e);
  reduction = λ e. reduction_in (cell_at p.pages e);
  pages = p.pages.order;
  serves = p.serves;
  under_way = p.under_way;
  begun = p.begun;
}

-- an iteration of n accesses was begun: it sees the start words, and nothing is marked or remembered of it
pub record IsBegun (old : PrivateCopy) (need : ℕ) (new : PrivateCopy) : Type 0 where
  pub start : new.start ≡ old.start
  pub words : new.words ≡ old.start
  pub flags : IsEmptied new.flags
  pub elements : element_count new.flags ≡ length old.start
  pub last : (e : ℕ) → new.last e ≡ old.last e
  pub reduction : (e : ℕ) → new.reduction e ≡ old.reduction e
  pub pages : new.pages ≡ old.pages
  pub serves : new.serves ≡ need
  pub under_way : new.under_way ≡ true
  pub begun : new.begun ≡ old.begun + 1

-- the iteration under way ended: what is remembered stays
pub record IsEnded (old new : PrivateCopy) : Type 0 where
  pub start : new.start ≡ old.start
  pub last : (e : ℕ) → new.last e ≡ old.last e
  pub reduction : (e : ℕ) → new.reduction e ≡ old.reduction e
  pub pages : new.pages ≡ old.pages
  pub under_way : new.under_way ≡ false
  pub begun : new.begun ≡ old.begun
