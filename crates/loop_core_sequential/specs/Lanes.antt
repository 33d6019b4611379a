-- The lanes of a batch as iterations of a loop.
use Rattle.std.specs.{Prelude.{◌≡◌, ℕ, ◌+◌, ◌<◌, ◌≤◌, true, List, length}, List.{All}}
use Rattle.array_maps.specs.MapList.{AreWords}
use Rattle.bpf_insn_types.specs.Program.{Program}
use Rattle.bpf_step_model.specs.State.{LoopCall}
use Rattle.loop_core_model.specs.{Effects.{Effect, EffectLog, LoadsSame, effects_of}, LoopByEffects.{GoesOn, Leaves}}
use Rattle.lane_stamps.specs.{declared.site.Site.{Site}, Sites.{HasRows, IsWithin, LaneRows, Touches, leaves, loads}}
use Rattle.lane_stamps.specs.Stamps.{GoTogether}
use Rattle.row_list.specs.declared.translating.RowList.{RowList}
use Rattle.row_run.specs.{declared.batch.Batch.{Batch}, Batches.{AllRan, NoneSeesOwn, batch_log, rows_of, sites_of}}

-- this is so of each of the first lanes of a batch: of its index, from a first one on, and of what the log has of it, on
-- all words on which it loads the same as on these
abbrev pub EachLane : (ℕ → List ℕ → List Effect → Type 0) → (first lanes : ℕ) → (words : List ℕ) → EffectLog → Type 0
EachLane Is first lanes words log = (lane : ℕ) → lane < lanes → (now : List ℕ) → AreWords now
    → LoadsSame words now (effects_of log lane) → Is (first + lane) now (effects_of log lane)

-- the first lanes of a batch are the iterations from an index on: each goes on, and does what the log has of it
abbrev pub LanesGoOn : Program → LoopCall → (first lanes : ℕ) → (words : List ℕ) → EffectLog → Type 0
LanesGoOn program call first lanes words log = EachLane (GoesOn program 4096 call) first lanes words log

-- each goes on, and leaves what that leaves
abbrev pub LanesLeave : Program → LoopCall → (first lanes : ℕ) → (words : List ℕ) → EffectLog → Type 0
LanesLeave program call first lanes words log = EachLane (Leaves program 4096 call) first lanes words log

-- none of the first lanes loads a half that an earlier one left
abbrev pub LoadsNoneLeft : List Site → LaneRows → (lanes : ℕ) → Type 0
LoadsNoneLeft sites rows lanes = (later earlier : ℕ) → earlier < later → later < lanes
    → All (λ at. All (λ by. loads at.kind ≡ true → leaves by.kind ≡ true → (half : ℕ) → Touches rows at later half
    → Touches rows by earlier half → ⊥) sites) sites

-- what the first lanes of a batch did may be applied to so many words
pub record MayApply (batch : Batch) (lanes words : ℕ) : Type 0 where
  pub room : lanes ≤ 512
  pub rows : All (HasRows (rows_of batch)) (sites_of batch)
  pub within : All (IsWithin words lanes (rows_of batch)) (sites_of batch)
  pub together : GoTogether (batch_log batch) lanes

-- of the lanes of a batch, from an index on, the first, so many, ran a list on these words, and may go together: none
-- loads what it left itself, or what an earlier one left
pub record RanTogether (list : RowList) (first lanes : ℕ) (frame words : List ℕ) (batch : Batch) (count : ℕ) : Type 0
  where
    pub few : count ≤ lanes
    pub ran : AllRan list.list.items list.result first count frame words (batch_log batch)
    pub own : NoneSeesOwn (batch_log batch) count
    pub applies : MayApply batch count (length words)
    pub apart : LoadsNoneLeft (sites_of batch) (rows_of batch) count
