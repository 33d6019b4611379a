-- Loops that run in order and are watched: no iteration reads an element that an earlier one wrote.
use Rattle.std.specs.Prelude.{◌≡◌, ℕ, ◌<◌, Bool, true, false, ◌⊎◌, List, [], ◌∷◌, ◌++◌, length, slice_index}
use Rattle.array_maps.specs.{Accesses.{Access, actions_at}, MapList.{MapList}}
use Rattle.bpf_insn_types.specs.Program.{Program}
use Rattle.bpf_step_model.specs.{State.{LoopCall}, Run.{BoundedResult, Ended, Stuck, Unfinished}}
use Rattle.bpf_step_model.specs.Iteration.{Iterated, iteration}
use Rattle.loop_core_model.specs.declared.{loop_test.Test.TheVariants.{Flow}, verdict.Verdict.TheVariants.{Parallel}}
use Rattle.loop_core_model.specs.{Actions.{is_plain_write, writes, exposed}, Report.{verdict}}
use Rattle.loop_core_model.specs.LoopByEffects.{EndsInZero}
use Rattle.lane_rows.specs.{declared.{mask.Mask.{Mask}, places.Places.{Places}}, Rows.{is_in, place_at}}
use Rattle.lane_stamps.specs.declared.{kind.Kind.{Kind, TheVariants.{Apply}}, site.Site.{Site}}
use Rattle.lane_stamps.specs.declared.kind.Kind.TheVariants.{Load, LoadHalf, Store, Fetch, Replace, FetchHalf, AddHalf}
use Rattle.lane_stamps.specs.Sites.{LaneRows, element_named, is_of_halves, leaves, loads, mask_of, places_of}
use Rattle.loop_core_sequential.specs.{Loops.{RanLoopInOrder}, Rests.{RanOn}}

-- the loop in order on the old maps ends with this answer and leaves the new ones, and it passes by the flow test
pub record RanAndPasses (program : Program) (call : LoopCall) (old new : MapList) (answer : ℕ) : Type 0 where
  pub ran : RanLoopInOrder program call old new answer
  pub passes : verdict Flow program 4096 call old.words ≡ Ended Parallel

-- the accesses of an iteration that ended; none of any other
abbrev pub accesses_if_ended : BoundedResult Iterated → List Access
accesses_if_ended (Ended it) = it.accesses
accesses_if_ended Stuck = []
accesses_if_ended Unfinished = []

-- the accesses of the iteration of an index on these words
abbrev pub accesses_at : Program → LoopCall → List ℕ → (index : ℕ) → List Access
accesses_at program call words index = accesses_if_ended (iteration program 4096 call index words)

-- of the iterations below an index, each on these words, none has an exposed read of an element that an earlier one
-- writes
abbrev pub NoneReadsWritten : Program → LoopCall → (words : List ℕ) → (index : ℕ) → Type 0
NoneReadsWritten program call words index = (element earlier later : ℕ) → element < length words → earlier < later
    → later < index → writes (actions_at element (accesses_at program call words earlier)) ≡ true
    → exposed (actions_at element (accesses_at program call words later)) ≡ false

-- one of the iterations below an index, each on these words, writes an element
pub record IsWrittenBelow (program : Program) (call : LoopCall) (words : List ℕ) (index element : ℕ) : Type 0 where
  pub earlier : ℕ
  pub below : earlier < index
  pub wrote : writes (actions_at element (accesses_at program call words earlier)) ≡ true

-- the loop in order reaches an iteration that sees or reduces an element that was written: by an earlier iteration, or
-- by itself before that
pub record ReachesWritten (program : Program) (call : LoopCall) (start : MapList) : Type 0 where
  pub index : ℕ
  pub below : index < call.n
  -- the maps are these when it begins
  pub now : MapList
  pub reached : RanOn program call 0 index start now
  pub it : Iterated
  pub ended : iteration program 4096 call index now.words ≡ Ended it
  -- one of its accesses isn't a plain write
  pub front : List Access
  pub access : Access
  pub back : List Access
  pub are : it.accesses ≡ front ++ access ∷ back
  pub sees : is_plain_write access.action ≡ false
  pub was : IsWrittenBelow program call start.words index access.element
      ⊎ (writes (actions_at access.element front) ≡ true)

-- up to an index the loop went on in order from its start maps, and each iteration goes on from the start words too;
-- none reads what an earlier one writes; the elements that they write are those that are noted as written, and the
-- others are as at the start
pub record WentWatched (program : Program) (call : LoopCall) (index : ℕ) (start now : MapList) (written : ℕ → Bool)
    : Type 0 where
  pub went : RanOn program call 0 index start now
  pub count : length now.words ≡ length start.words
  pub each : (earlier : ℕ) → earlier < index → EndsInZero program 4096 call earlier start.words
      (accesses_at program call start.words earlier)
  pub unread : NoneReadsWritten program call start.words index
  pub marked : (element earlier : ℕ) → element < length start.words → earlier < index
      → writes (actions_at element (accesses_at program call start.words earlier)) ≡ true → written element ≡ true
  pub only : (element : ℕ) → element < length start.words → written element ≡ true
      → IsWrittenBelow program call start.words index element
  pub kept : (element : ℕ) → element < length start.words → written element ≡ false
      → slice_index now.words element ≡ slice_index start.words element

-- what is done at a site only loads words or halves, or leaves whole words
abbrev pub is_whole : Kind → Bool
is_whole Load = true
is_whole LoadHalf = true
is_whole Store = true
is_whole Fetch = true
is_whole Replace = false
is_whole FetchHalf = false
is_whole AddHalf = false
is_whole (Apply op) = false

-- the element of a lane's place
abbrev pub element_at : (halves : Bool) → Places → (lane : ℕ) → ℕ
element_at halves places lane = element_named halves (place_at places lane)

-- an element of none of the lanes of a mask is noted as written
abbrev pub AreUnwritten : (written : ℕ → Bool) → (lanes : ℕ) → (halves : Bool) → Mask → Places → Type 0
AreUnwritten written lanes halves mask places = (lane : ℕ) → lane < lanes → is_in mask lane ≡ true
    → written (element_at halves places lane) ≡ false

-- at a site lanes read nothing that is noted as written: no lane reduces there, or replaces a half of a word, and none
-- loads an element that is noted as written
pub record IsUnread (written : ℕ → Bool) (lanes : ℕ) (of_lanes : LaneRows) (site : Site) : Type 0 where
  pub whole : (lane : ℕ) → lane < lanes → is_in (mask_of of_lanes site) lane ≡ true → is_whole site.kind ≡ true
  pub unread : loads site.kind ≡ true
      → AreUnwritten written lanes (is_of_halves site.kind) (mask_of of_lanes site) (places_of of_lanes site)

-- the elements of all lanes of a mask are noted as written
abbrev pub AreWritten : (written : ℕ → Bool) → (lanes : ℕ) → (halves : Bool) → Mask → Places → Type 0
AreWritten written lanes halves mask places = (lane : ℕ) → lane < lanes → is_in mask lane ≡ true
    → written (element_at halves places lane) ≡ true

-- the elements that lanes leave a word at, at a site, are noted as written
abbrev pub IsNoted : (written : ℕ → Bool) (lanes : ℕ) → LaneRows → Site → Type 0
IsNoted written lanes of_lanes site = leaves site.kind ≡ true
    → AreWritten written lanes (is_of_halves site.kind) (mask_of of_lanes site) (places_of of_lanes site)
