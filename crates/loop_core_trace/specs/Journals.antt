-- How a journal of words undoes an iteration.
use Rattle.std.specs.{Prelude.{◌≡◌, ℕ, ◌<◌, List, [], ◌∷◌, length, slice_set}, List.{AllByRecursion}}
use Rattle.array_maps.specs.MapList.{MapList}
use Rattle.loop_core_trace.specs.declared.journal.Note.{Note}

-- words with what was noted put back, the last first
abbrev pub unwound : List Note → List ℕ → List ℕ
unwound [] words = words
unwound (note ∷ notes) words = slice_set (unwound notes words) note.element note.word

-- a journal leads from maps back to those before
pub record Undoes (journal : List Note) (maps before : MapList) : Type 0 where
  pub within : AllByRecursion (λ note. note.element < length maps.words) journal
  pub words : unwound journal maps.words ≡ before.words
  pub sizes : maps.sizes ≡ before.sizes
