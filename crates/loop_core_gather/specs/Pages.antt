-- What a pass leaves, page by page. A page is 64 elements.
use Rattle.std.specs.Prelude.{◌≡◌, ◌≢◌, ℕ, ◌+◌, ◌*◌, ◌/◌, ◌%◌, ◌<◌, true, false, List, map, length, slice_index}
use Rattle.std.specs.List.{AllByRecursion}
use Rattle.private_copy.specs.Touched.{has_page}
use Rattle.loop_core_gather.specs.declared.storing.LeftPage.{LeftPage}

-- of all words these are the 64 of a page: 0 past the last one
abbrev pub IsPageOf : (words : List ℕ) (page : ℕ) (own : List ℕ) → Type 0
IsPageOf words page own = (k : ℕ) → k < 64 → slice_index own k ≡ slice_index words (page * 64 + k)

-- of a word for each page, these pages are all whose word isn't 0, and maybe others
abbrev pub HaveAllTouched : (touched pages : List ℕ) → Type 0
HaveAllTouched touched pages = (page : ℕ) → page < length touched → slice_index touched page ≢ 0 → has_page pages page
    ≡ true

-- what is left differs from the start words at the elements of these pages alone
pub record ChangesWithin (pages start left : List ℕ) : Type 0 where
  pub count : length left ≡ length start
  pub others : (e : ℕ) → e < length start → has_page pages (e / 64) ≡ false → slice_index left e ≡ slice_index start e

-- a page has this number, and the words that are left there
pub record IsLeftAt (left : List ℕ) (number : ℕ) (page : LeftPage) : Type 0 where
  pub number_is : page.number ≡ number
  pub words_are : IsPageOf left number page.words

-- the numbers of pages
abbrev pub numbers_of : List LeftPage → List ℕ
numbers_of pages = map (λ (page : LeftPage). page.number) pages

-- each of these pages holds what is left there, and what is left differs from the start words at them alone
pub record AreLeft (start left : List ℕ) (pages : List LeftPage) : Type 0 where
  pub each : AllByRecursion (λ page. IsPageOf left page.number page.words) pages
  pub within : ChangesWithin (numbers_of pages) start left

-- the words of a page are set, and no others
pub record SetsPage (old new : List ℕ) (page : LeftPage) : Type 0 where
  pub count : length new ≡ length old
  pub here : (e : ℕ) → e < length old → e / 64 ≡ page.number → slice_index new e ≡ slice_index page.words (e % 64)
  pub others : (e : ℕ) → e / 64 ≢ page.number → slice_index new e ≡ slice_index old e
