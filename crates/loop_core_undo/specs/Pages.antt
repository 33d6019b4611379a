-- Pages of an undo log: 64 elements each.
use Rattle.std.specs.Prelude.{◌≡◌, ◌≢◌, ℕ, ◌<◌, ◌/◌, true, false, List, length, slice_index, slice_index_or}
use Rattle.array_maps.specs.MapList.{MapList}
use Rattle.loop_core_undo.specs.{declared.undo_log.UndoLog.{UndoLog}, Undo.{log_elements, word_before}}

-- pages may have been saved: what is noted as written is the same, and so are the words from when the log was empty
pub record KeepsBefore (now : List ℕ) (old new : UndoLog) : Type 0 where
  pub written : new.written.items ≡ old.written.items
  pub saved : (page : ℕ) → slice_index_or old.saved.items page false ≡ true
      → slice_index_or new.saved.items page false ≡ true
  pub before : (e : ℕ) → e < log_elements old → word_before new now e ≡ word_before old now e

-- the words of a page are these again, and no other has changed
pub record PageIsBack (page : ℕ) (before : List ℕ) (old new : MapList) : Type 0 where
  pub sizes : new.sizes ≡ old.sizes
  pub count : length new.words ≡ length old.words
  pub here : (e : ℕ) → e < length old.words → e / 64 ≡ page → slice_index new.words e ≡ slice_index before e
  pub others : (e : ℕ) → e / 64 ≢ page → slice_index new.words e ≡ slice_index old.words e

-- the words of a page that were there and those that were saved have changed places, and nothing else has changed
pub record PageIsExchanged (page : ℕ) (old new : UndoLog) (before after : MapList) : Type 0 where
  pub back : PageIsBack page old.before.items before after
  pub written : new.written.items ≡ old.written.items
  pub saved : new.saved.items ≡ old.saved.items
  pub here : (e : ℕ) → e < length before.words → e / 64 ≡ page
      → slice_index new.before.items e ≡ slice_index before.words e
  pub others : (e : ℕ) → e / 64 ≢ page → slice_index new.before.items e ≡ slice_index old.before.items e
