-- What the seats of a board drew, posted and saw, and which histories are legal.
use Rattle.std.specs.{Prelude.{◌≡◌, ℕ, ◌<◌, ◌≤◌, ◌⊎◌, min, Bool, false, List, [], ◌∷◌, IsTrue}, List.{list_any}}
use Rattle.loop_board.specs.Sums.{total, times, once_below}

-- one seat's history: the block numbers that it drew and whether it found none, the indices that it posted, and the
-- answers of its looks
pub record History : Type 0 where
  pub draws : List ℕ
  pub found_none : Bool
  pub posts : List ℕ
  pub looks : List ℕ

-- what a look answers where no index was posted
abbrev pub no_post : ℕ
no_post = 4294967295

-- the greatest index that may be posted
abbrev pub most_index : ℕ
most_index = 8388607

-- an index that may be posted, or 4,294,967,295
abbrev pub IsIndexOrNone : ℕ → Type 0
IsIndexOrNone n = (n ≤ most_index) ⊎ (n ≡ no_post)

-- a seat that has done nothing yet
abbrev pub nothing_done : History
nothing_done = record { draws = []; found_none = false; posts = []; looks = [] }

-- how often the seats drew the block x
abbrev pub times_drawn : ℕ → List History → ℕ
times_drawn x hs = total (λ (h : History). times x h.draws) hs

-- how often the seats posted the index x
abbrev pub times_posted : ℕ → List History → ℕ
times_posted x hs = total (λ (h : History). times x h.posts) hs

-- how often the looks of the seats answered x
abbrev pub times_seen : ℕ → List History → ℕ
times_seen x hs = total (λ (h : History). times x h.looks) hs

-- whether some seat found none
abbrev pub some_found_none : List History → Bool
some_found_none hs = list_any (λ (h : History). h.found_none) hs

-- the least of the indices, 4,294,967,295 where there is none
abbrev pub least_index_in : List ℕ → ℕ
least_index_in [] = no_post
least_index_in (p ∷ ps) = min p (least_index_in ps)

-- the least index that a seat posted, 4,294,967,295 where none did
abbrev pub least_post : List History → ℕ
least_post [] = no_post
least_post (h ∷ hs) = min (least_index_in h.posts) (least_post hs)

-- the seats drew the blocks below `claimed`, each once; that is every block where a seat found none; and each look
-- answered 4,294,967,295 or an index that some seat posted
pub record Legal (blocks claimed : ℕ) (hs : List History) : Type 0 where
  pub within : claimed ≤ blocks
  pub each_once : (x : ℕ) → times_drawn x hs ≡ once_below x claimed
  pub all_blocks : IsTrue (some_found_none hs) → claimed ≡ blocks
  pub looks : (x : ℕ) → 0 < times_seen x hs → (x ≡ no_post) ⊎ (0 < times_posted x hs)

-- the least index that was posted, 4,294,967,295 where none was; `posted` says how often each index was posted
pub record IsLeast (least : ℕ) (posted : ℕ → ℕ) : Type 0 where
  pub most : least ≤ no_post
  pub below : (x : ℕ) → 0 < posted x → least ≤ x
  pub reached : (least ≡ no_post) ⊎ (0 < posted least)
