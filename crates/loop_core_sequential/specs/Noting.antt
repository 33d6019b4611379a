-- What an undo log has of a loop that is watched.
use Rattle.std.specs.{Prelude.{◌≡◌, ℕ, ◌<◌, Bool, true, ◌⊎◌, List, length, slice_index, slice_index_or}, List.{All}}
use Rattle.array_maps.specs.MapList.{MapList}
use Rattle.bpf_insn_types.specs.Program.{Program}
use Rattle.bpf_step_model.specs.State.{LoopCall}
use Rattle.lane_rows.specs.{declared.{mask.Mask.{Mask}, places.Places.{Places}}, Rows.{is_in}}
use Rattle.lane_stamps.specs.{declared.site.Site.{Site}, Sites.{LaneRows, is_of_halves, leaves, mask_of, places_of}}
use Rattle.loop_core_undo.specs.{declared.undo_log.UndoLog.{UndoLog}, Undo.{log_elements, is_written, word_before}}
use Rattle.loop_core_sequential.specs.Watched.{AreWritten, IsNoted, WentWatched, element_at}

-- the elements of the lanes of a mask are below a number
abbrev pub AreBelow : (elements lanes : ℕ) → (halves : Bool) → Mask → Places → Type 0
AreBelow elements lanes halves mask places = (lane : ℕ) → lane < lanes → is_in mask lane ≡ true
    → element_at halves places lane < elements

-- what was noted as written still is, and the words from when the log was empty are the same
pub record Grows (words : List ℕ) (old new : UndoLog) : Type 0 where
  pub count : log_elements new ≡ log_elements old
  pub written : (e : ℕ) → e < log_elements old → is_written old e ≡ true → is_written new e ≡ true
  pub before : (e : ℕ) → e < log_elements old → word_before new words e ≡ word_before old words e

-- one of the lanes of a mask has an element
pub record HasElement (lanes : ℕ) (halves : Bool) (mask : Mask) (places : Places) (element : ℕ) : Type 0 where
  pub lane : ℕ
  pub below : lane < lanes
  pub made : is_in mask lane ≡ true
  pub at : element_at halves places lane ≡ element

-- it grew by the elements of the lanes of a mask
pub record LanesNoted (words : List ℕ) (lanes : ℕ) (halves : Bool) (mask : Mask) (places : Places) (old new : UndoLog)
    : Type 0 where
  pub grows : Grows words old new
  pub noted : AreWritten (is_written new) lanes halves mask places
  pub only : (e : ℕ) → e < log_elements old → is_written new e ≡ true
      → (is_written old e ≡ true) ⊎ HasElement lanes halves mask places e

-- a lane leaves a word at an element, at one of the sites
pub record IsLeft (lanes : ℕ) (of_lanes : LaneRows) (sites : List Site) (element : ℕ) : Type 0 where
  pub k : ℕ
  pub below : k < length sites
  pub leaves_it : (d : Site) → leaves (slice_index_or sites k d).kind ≡ true
  pub has : (d : Site) → HasElement lanes (is_of_halves (slice_index_or sites k d).kind)
      (mask_of of_lanes (slice_index_or sites k d)) (places_of of_lanes (slice_index_or sites k d)) element

-- it grew by what the lanes of a batch write
pub record NotesWrites (lanes : ℕ) (of_lanes : LaneRows) (sites : List Site) (words : List ℕ) (old new : UndoLog)
    : Type 0 where
  pub grows : Grows words old new
  pub noted : All (IsNoted (is_written new) lanes of_lanes) sites
  pub only : (e : ℕ) → e < log_elements old → is_written new e ≡ true
      → (is_written old e ≡ true) ⊎ IsLeft lanes of_lanes sites e

-- the start maps can be restored
pub record CanRestore (start now : MapList) (log : UndoLog) : Type 0 where
  pub sizes : now.sizes ≡ start.sizes
  pub count : length now.words ≡ length start.words
  pub elements : log_elements log ≡ length start.words
  pub before : (e : ℕ) → e < length start.words → word_before log now.words e ≡ slice_index start.words e

-- up to an index a loop went on in order from its start maps, watched, and the start maps can be restored
pub record GoesWatched (program : Program) (call : LoopCall) (index : ℕ) (start now : MapList) (log : UndoLog) : Type 0
  where
    pub watched : WentWatched program call index start now (is_written log)
    pub restores : CanRestore start now log
