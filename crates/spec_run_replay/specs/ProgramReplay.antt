-- The outcome of the replay of a program's first valid loop call.
use Rattle.std.specs.{Prelude.{◌≡◌, ℕ, pos, List, Option, Some, None, Result, Ok, Err}, Result.{result_map_both}}
use Rattle.bpf_insn_types.specs.Program.{Program}
use Rattle.bpf_step_model.specs.Run.{BoundedResult, Ended, mapped}
use Rattle.loop_core_model.specs.declared.{event.Event.{Event}, loop_test.Test.{Test}, verdict.LoopReport.{LoopReport}}
use Rattle.loop_core_model.specs.{declared.faults.SplitFault.{SplitFault}, Split.{split_fault}}
use Rattle.loop_core_model.specs.Outcome.{Outcome, replayed}
use Rattle.spec_run_replay.specs.declared.replaying.ReplayRefusal.{ReplayRefusal, TheVariants.{NoLoop, Split, Schedule}}
use Rattle.spec_run_replay.specs.declared.replaying.{Replayed.{Replayed}, NoReplay.{NoReplay}}
use Rattle.spec_run_replay.specs.declared.replaying.NoReplay.TheVariants.{Refused, Memory}
use Rattle.spec_run_replay.specs.FirstLoop.{ValidLoop, first_loop}

-- a loop that was replayed: its number among the program's loop calls, its line, and the words after it
pub record LoopReplay : Type 0 where
  pub number : ℕ
  pub report : LoopReport
  pub words : List ℕ

-- a loop with its outcome
abbrev pub with_outcome : ValidLoop → Outcome → LoopReplay
with_outcome valid o = record {
  number = valid.number;
  report = record { slot = valid.call.slot; answer = pos o.answer; verdict = o.verdict };
  words = o.words;
}

-- what the schedule gives, if the bounds are a split of the loop; else the split's fault
abbrev pub of_split : Result (BoundedResult LoopReplay) ReplayRefusal → Option SplitFault
    → Result (BoundedResult LoopReplay) ReplayRefusal
of_split scheduled (Some fault) = Err (Split fault)
of_split scheduled None = scheduled

-- the replay of a program's first valid loop, if it has one: the refusal by its split comes before that by its schedule
abbrev pub of_loop : Test → Program → ℕ → (bounds : List ℕ) → List Event → Option ValidLoop
    → Result (BoundedResult LoopReplay) ReplayRefusal
of_loop test program bound bounds events None = Err NoLoop
of_loop test program bound bounds events (Some valid) =
    of_split (result_map_both (mapped (with_outcome valid)) Schedule
    (replayed test program bound valid.call valid.words bounds events)) (split_fault bounds valid.call.n)

-- from these words a program reaches its first valid loop call, or its end, and its replay has this outcome
pub record ReplaysFrom (test : Test) (program : Program) (argument : ℕ) (words bounds : List ℕ) (events : List Event)
    (comes : Result LoopReplay ReplayRefusal) : Type 0 where
  pub valid : Option ValidLoop
  pub first : first_loop program 4096 argument words ≡ Ended valid
  pub replays : of_loop test program 4096 bounds events valid ≡ result_map_both Ended (λ refusal. refusal) comes

-- what is given or refused is as wanted, or memory ran out
abbrev pub ReplaysUnlessMemory : (Result LoopReplay ReplayRefusal → Type 0) → Result Replayed NoReplay → Type 0
ReplaysUnlessMemory wanted (Ok r) = wanted (Ok (record { number = r.number; report = r.report; words = r.maps.words }))
ReplaysUnlessMemory wanted (Err (Refused refusal)) = wanted (Err refusal)
ReplaysUnlessMemory wanted (Err Memory) = Unit {0}
