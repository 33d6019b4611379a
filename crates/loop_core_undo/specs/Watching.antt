-- What accesses do to maps that are watched.
use Rattle.std.specs.Prelude.{◌≡◌, ℕ, ◌<◌, Bool, true, false, ◌||◌, ◌&&◌, ◌==◌, if◌then◌else◌, List, ◌∷◌, ◌++◌}
use Rattle.std.specs.Prelude.{slice_index}
use Rattle.array_maps.specs.{Accesses.{Access, words_after, words_after_all, actions_at}, Store.{Effects}}
use Rattle.loop_core_model.specs.Actions.{is_write, is_plain_write, writes, exposed}
use Rattle.loop_core_undo.specs.{declared.watched.Watched.{Watched}, Undo.{log_elements, is_written, word_before}}

-- the maps after an access; its element is noted as written where it leaves a word there, and the words from when the
-- log was empty are the same; a plain write meets nothing, and any other access does where its element was written; so
-- where nothing was met, nothing was met before, and it is a plain write, or its element wasn't written
pub record IsWatched (old : Watched) (access : Access) (new : Watched) : Type 0 where
  pub maps : new.maps.now ≡ record { sizes = old.maps.now.sizes; words = words_after access old.maps.now.words }
  pub same_maps : new.maps.ghost_name ≡ old.maps.ghost_name
  pub same_log : new.log.ghost_name ≡ old.log.ghost_name
  pub count : log_elements new.log.now ≡ log_elements old.log.now
  pub written : (e : ℕ) → e < log_elements old.log.now → is_written new.log.now e
      ≡ (is_written old.log.now e || (access.element == e && is_write access.action))
  pub before : (e : ℕ) → e < log_elements old.log.now → word_before new.log.now new.maps.now.words e
      ≡ word_before old.log.now old.maps.now.words e
  pub met : new.met
      ≡ (if is_plain_write access.action then old.met else (old.met || is_written old.log.now access.element))
  pub first : new.met ≡ false → old.met ≡ false
  pub unmet : new.met ≡ false → is_plain_write access.action ≡ false → is_written old.log.now access.element ≡ false

-- one of a list of accesses isn't a plain write, and is of an element that was written: before them all, by what is
-- noted as written, or by those before it
pub record MeetsWritten (written : ℕ → Bool) (accesses : List Access) : Type 0 where
  pub front : List Access
  pub access : Access
  pub back : List Access
  pub are : accesses ≡ front ++ access ∷ back
  pub sees : is_plain_write access.action ≡ false
  pub was : (written access.element || writes (actions_at access.element front)) ≡ true

-- what a list of accesses does to maps that are watched, element by element
pub record WatchedAll (old : Watched) (accesses : List Access) (new : Watched) : Type 0 where
  -- both references are the same
  pub same_maps : new.maps.ghost_name ≡ old.maps.ghost_name
  pub same_log : new.log.ghost_name ≡ old.log.ghost_name
  -- the maps are those after the accesses, and the log is for as many elements
  pub sizes : new.maps.now.sizes ≡ old.maps.now.sizes
  pub words : new.maps.now.words ≡ words_after_all accesses old.maps.now.words
  pub count : log_elements new.log.now ≡ log_elements old.log.now
  -- an element is noted as written where it was, or where they write it
  pub written : (e : ℕ) → e < log_elements old.log.now → is_written new.log.now e
      ≡ (is_written old.log.now e || writes (actions_at e accesses))
  -- the word of an element that isn't noted as written is the same
  pub unwritten : (e : ℕ) → e < log_elements old.log.now → is_written new.log.now e ≡ false
      → slice_index new.maps.now.words e ≡ slice_index old.maps.now.words e
  -- so are the words from when the log was empty
  pub before : (e : ℕ) → e < log_elements old.log.now → word_before new.log.now new.maps.now.words e
      ≡ word_before old.log.now old.maps.now.words e
  -- where they met something, and nothing was met before, one of them sees or reduces an element that was written
  pub met : old.met ≡ false → new.met ≡ true → MeetsWritten (is_written old.log.now) accesses
  -- where they met nothing, nothing was met before
  pub first : new.met ≡ false → old.met ≡ false
  -- and they have no exposed read of an element that was written before them
  pub unmet : new.met ≡ false → (e : ℕ) → is_written old.log.now e ≡ true → exposed (actions_at e accesses) ≡ false

-- accesses in order, each by its effect, do this
abbrev pub AccessesAreWatched : Type 0
AccessesAreWatched = (old new : Watched) (accesses : List Access) → Effects IsWatched old accesses new
    → WatchedAll old accesses new
