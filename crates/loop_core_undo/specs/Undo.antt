-- What an undo log keeps: which elements were written since it was empty, and the words from before.
use Rattle.std.specs.Prelude.{◌≡◌, ℕ, ◌<◌, ◌/◌, Bool, false, ◌||◌, if◌then◌else◌, List, map, length, slice_index}
use Rattle.std.specs.{Prelude.{slice_index_or}, List.{range_with_len}}
use Rattle.loop_core_undo.specs.declared.undo_log.UndoLog.{UndoLog}

-- for how many elements it is
abbrev pub log_elements : UndoLog → ℕ
log_elements log = length log.written.items

-- an element was written
abbrev pub is_written : UndoLog → ℕ → Bool
is_written log e = slice_index_or log.written.items e false

-- the words of the page of 64 elements were saved that has this one
abbrev pub is_saved : UndoLog → ℕ → Bool
is_saved log e = slice_index_or log.saved.items (e / 64) false

-- the word of an element from when the log was empty, where the words are these now: the saved one, or that which is
-- still there
abbrev pub word_before : UndoLog → (now : List ℕ) → ℕ → ℕ
word_before log now e = if is_saved log e then slice_index log.before.items e else slice_index now e

-- all of them
abbrev pub words_before : UndoLog → (now : List ℕ) → List ℕ
words_before log now = map (word_before log now) (range_with_len 0 (length now))

-- nothing was written
pub record IsEmpty (elements : ℕ) (log : UndoLog) : Type 0 where
  pub count : log_elements log ≡ elements
  pub unwritten : (e : ℕ) → is_written log e ≡ false
  pub unsaved : (e : ℕ) → is_saved log e ≡ false

-- some elements more are noted as written, before they are: the words from when the log was empty are the same
pub record MarksMore (which : ℕ → Bool) (now : List ℕ) (old new : UndoLog) : Type 0 where
  pub count : log_elements new ≡ log_elements old
  pub written : (e : ℕ) → e < log_elements old → is_written new e ≡ (is_written old e || which e)
  pub before : (e : ℕ) → e < log_elements old → word_before new now e ≡ word_before old now e

-- where words change only at elements that are noted as written, the words from when the log was empty are the same
abbrev pub WordsBeforeAreKept : Type 0
WordsBeforeAreKept = (log : UndoLog) (now later : List ℕ)
    → ((e : ℕ) → is_written log e ≡ false → slice_index later e ≡ slice_index now e)
    → (e : ℕ) → word_before log later e ≡ word_before log now e
