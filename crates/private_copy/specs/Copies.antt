-- A private copy of maps: what it shows, and what is remembered of the iterations that used it.
use Rattle.std.specs.Prelude.{◌≡◌, ◌≢◌, ℕ, ◌+◌, ◌<◌, Bool, true, false, if◌then◌else◌, List, [], ◌∷◌, ◌++◌, length}
use Rattle.std.specs.Prelude.{slice_index, Option, Some}
use Rattle.array_maps.specs.Accesses.{Access, Action, actions_at, left_by, words_after, words_after_all}
use Rattle.loop_core_model.specs.{Actions.{is_write, joined}, Committed.{last_value}, Conflict.{at_element}}
use Rattle.loop_core_model.specs.Flags.{flagged, kind_of}
use Rattle.shadow_marks.specs.declared.iter_flags.IterFlags.{IterFlags}
use Rattle.shadow_marks.specs.Iteration.{element_count, flags_at, AreFlagsOf}
use Rattle.private_copy.specs.{declared.reduction.Reduction.{Reduction}, Reductions.{reduction_of, reduction_after}}
use Rattle.private_copy.specs.Touched.{page_of, with_page, pages_after}

-- A private copy. start: the words of the start maps. words: what the iteration under way sees. flags: what it did at
-- each element. last and reduction: at each element, what the last iteration that writes it left, and what reduces
-- combined, of all iterations so far, the one under way included. pages: the touched pages in order of first access.
-- serves: how many accesses the iteration may still make. begun: how many iterations were begun.
pub record PrivateCopy : Type 0 where
  pub start : List ℕ
  pub words : List ℕ
  pub flags : IterFlags
  pub last : ℕ → Option ℕ
  pub reduction : ℕ → Reduction
  pub pages : List ℕ
  pub serves : ℕ
  pub under_way : Bool
  pub begun : ℕ

-- what an action leaves as the last value of its element, where the iteration saw a word there
abbrev pub last_after : Option ℕ → Action → ℕ → Option ℕ
last_after before action word = if is_write action then Some (left_by action word) else before

-- what an access does to a copy: the words change as the access says, its element is marked by its kind, and nothing
-- else is remembered of another element
pub record Accessed (old : PrivateCopy) (access : Access) (new : PrivateCopy) : Type 0 where
  pub start : new.start ≡ old.start
  pub words : new.words ≡ words_after access old.words
  pub mark : flags_at new.flags access.element ≡ flagged (flags_at old.flags access.element) (kind_of access.action)
  pub other_marks : (e : ℕ) → e ≢ access.element → flags_at new.flags e ≡ flags_at old.flags e
  pub elements : element_count new.flags ≡ element_count old.flags
  pub last : new.last access.element ≡ last_after (old.last access.element) access.action
      (slice_index old.words access.element)
  pub other_lasts : (e : ℕ) → e ≢ access.element → new.last e ≡ old.last e
  pub reduction : new.reduction access.element ≡ reduction_after (old.reduction access.element) access.action
  pub other_reductions : (e : ℕ) → e ≢ access.element → new.reduction e ≡ old.reduction e
  pub pages : new.pages ≡ with_page old.pages (page_of access.element)
  pub serves : new.serves + 1 ≡ old.serves
  pub under_way : new.under_way ≡ old.under_way
  pub begun : new.begun ≡ old.begun

-- the copy remembers what these iterations did, each the list of its accesses
pub record Remembers (copy : PrivateCopy) (runs : List (List Access)) : Type 0 where
  pub last : (e : ℕ) → e < length copy.start → copy.last e ≡ last_value (at_element e runs) (slice_index copy.start e)
  pub reduction : (e : ℕ) → e < length copy.start → copy.reduction e ≡ reduction_of (at_element e runs)
  pub pages : copy.pages ≡ pages_after [] (joined runs)

-- the copy records these iterations, which ended
pub record CopyRecords (copy : PrivateCopy) (runs : List (List Access)) : Type 0 where
  pub ended : copy.under_way ≡ false
  pub remembers : Remembers copy runs

-- it records these iterations, which ended, and one under way, which made these accesses: the words that it shows
-- are the start words changed by them alone
pub record CopyRecordsWithin (copy : PrivateCopy) (runs : List (List Access)) (accesses : List Access) : Type 0 where
  pub under_way : copy.under_way ≡ true
  pub words : copy.words ≡ words_after_all accesses copy.start
  pub flags : AreFlagsOf (λ e. actions_at e accesses) copy.flags
  pub remembers : Remembers copy (runs ++ accesses ∷ [])
