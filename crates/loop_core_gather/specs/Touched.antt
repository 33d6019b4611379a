-- Which blocks touched which pages: a word for each page, of which each bit says of one block.
use Rattle.std.specs.{Prelude.{◌≡◌, ℕ, ◌<◌, Bool, true, ◌==◌, List, length, slice_get, slice_index, Some}, Int.{bit_at}}
use Rattle.private_copy.specs.Touched.{has_page}
use Rattle.loop_core_block.specs.Blocks.{BlockOf}

-- a page is marked by a bit
abbrev pub is_page_marked : List ℕ → (page bit : ℕ) → Bool
is_page_marked words page bit = bit_at (slice_index words page) bit == 1

-- a page more is marked by a bit
pub record MarksPage (old new : List ℕ) (page bit : ℕ) : Type 0 where
  pub count : length new ≡ length old
  pub here : page < length old → is_page_marked new page bit ≡ true
  pub stay : (other k : ℕ) → is_page_marked old other k ≡ true → is_page_marked new other k ≡ true

-- these pages more are marked by a bit
pub record MarksPages (old new : List ℕ) (pages : List ℕ) (bit : ℕ) : Type 0 where
  pub count : length new ≡ length old
  pub each : (page : ℕ) → has_page pages page ≡ true → page < length old → is_page_marked new page bit ≡ true
  pub stay : (other k : ℕ) → is_page_marked old other k ≡ true → is_page_marked new other k ≡ true

-- of the blocks at the first n of these places, the pages are marked, each block's by the bit of its number among
-- them
abbrev pub AreMarked : List BlockOf → List ℕ → (number : ℕ) → List ℕ → Type 0
AreMarked blocks places number touched = (i : ℕ) (b : BlockOf) (page : ℕ) → i < number
    → slice_get blocks (slice_index places i) ≡ Some b →
    has_page b.copy.pages page ≡ true → page < length touched → is_page_marked touched page i ≡ true
