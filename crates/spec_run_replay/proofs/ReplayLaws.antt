-- The replay at the call that main came to.
use Rattle.std.proofs.Common.{◌≡◌, ℕ, pos, List, Option, Some, None, Result, Ok, Err, refl, sym, ap, ◌∙◌}
use Rattle.std.specs.Result.{result_map_both}
use Rattle.array_maps.specs.MapList.{MapList}
use Rattle.bpf_insn_types.specs.Program.{Program}
use Rattle.bpf_step_model.specs.Run.{BoundedResult, Ended, mapped}
use Rattle.bpf_verify_sound.specs.Soundness.{IsSoundProgram}
use Rattle.loop_core_model.specs.declared.{event.Event.{Event}, loop_test.Test.{Test}, verdict.LoopReport.{LoopReport}}
use Rattle.loop_core_model.specs.{declared.faults.SplitFault.{SplitFault}, Split.{split_fault}}
use Rattle.loop_core_model.specs.{declared.replay_fault.ReplayFault.{ReplayFault}, Outcome.{Outcome, replayed}}
use Rattle.loop_core_sequential.specs.FilledCalls.{FilledCallsAreOneLoop}
use Rattle.spec_run_replay.specs.{declared.first_loop.NumberedCall.{NumberedCall}, FirstLoop.{ValidLoop, first_loop}}
use Rattle.spec_run_replay.specs.declared.replaying.ReplayRefusal.{ReplayRefusal, TheVariants.{NoLoop, Split, Schedule}}
use Rattle.spec_run_replay.specs.FoundLoop.{IsAtCall, IsFirstLoop, CameToLoop}
use Rattle.spec_run_replay.specs.ProgramReplay.{LoopReplay, with_outcome, of_split, of_loop, ReplaysFrom}

module _ (test : Test) (program : Program) (argument : ℕ) (old new : MapList) (bounds : List ℕ) (events : List Event)
  where
    -- main made no valid loop call
    pub no_loop : CameToLoop program argument old new None → ReplaysFrom test program argument old.words bounds events
        (Err NoLoop)
    no_loop came = go came.valid came.first came.is
      where
        go : (valid : Option ValidLoop) → first_loop program 4096 argument old.words ≡ Ended valid
            → IsFirstLoop program new valid None
            → ReplaysFrom test program argument old.words bounds events (Err NoLoop)
        go None first is = record { valid = None; first = first; replays = refl }
        go (Some valid) first is = absurd is

    -- main made one, and this is the call
    record AtCall (found : NumberedCall) : Type 0 where
      pub valid : ValidLoop
      pub first : first_loop program 4096 argument old.words ≡ Ended (Some valid)
      pub is : IsAtCall program new valid found

    at_call : (found : NumberedCall) → CameToLoop program argument old new (Some found) → AtCall found
    at_call found came = go came.valid came.first came.is
      where
        go : (valid : Option ValidLoop) → first_loop program 4096 argument old.words ≡ Ended valid
            → IsFirstLoop program new valid (Some found) → AtCall found
        go None first is = absurd is
        go (Some valid) first is = record { valid = valid; first = first; is = is }

    module _ (found : NumberedCall) (came : CameToLoop program argument old new (Some found)) where
      abbrev at : AtCall found
      at = at_call found came

      abbrev valid : ValidLoop
      valid = at.valid

      abbrev made : Result (BoundedResult Outcome) ReplayFault
      made = replayed test program 4096 valid.call valid.words bounds events

      abbrev scheduled : Result (BoundedResult Outcome) ReplayFault → Result (BoundedResult LoopReplay) ReplayRefusal
      scheduled = result_map_both (mapped (with_outcome valid)) Schedule

      split_is : (fault : Option SplitFault) → split_fault bounds found.call.n ≡ fault
          → split_fault bounds valid.call.n ≡ fault
      split_is fault found_is = ap (split_fault bounds) (sym at.is.filled.n) ∙ found_is

      -- the bounds don't split its iterations
      pub split_refused : (fault : SplitFault) → split_fault bounds found.call.n ≡ Some fault
          → ReplaysFrom test program argument old.words bounds events (Err (Split fault))
      split_refused fault amiss = record {
        valid = Some valid;
        first = at.first;
        replays = ap (of_split (scheduled made)) (split_is (Some fault) amiss);
      }

      module _ (law : FilledCallsAreOneLoop) (sound : IsSoundProgram program) (split : split_fault bounds found.call.n
          ≡ None) where
        -- of a split the replay is that of the call as main made it
        replays_of : (r : Result (BoundedResult Outcome) ReplayFault)
            → replayed test program 4096 found.call new.words bounds events ≡ r
            → of_loop test program 4096 bounds events (Some valid) ≡ scheduled r
        replays_of r replay_is =
            let same : made ≡ r =
            ap (λ (ws : List ℕ). replayed test program 4096 valid.call ws bounds events) (sym at.is.words)
            ∙ sym ((law program sound valid.call found.call at.is.filled at.is.known new.words at.is.fit).replays test
            bounds events split)
            ∙ replay_is in
            ap (of_split (scheduled made)) (split_is None split) ∙ ap scheduled same

        -- the events are no schedule of it
        pub schedule_refused : (fault : ReplayFault)
            → replayed test program 4096 found.call new.words bounds events ≡ Err fault
            → ReplaysFrom test program argument old.words bounds events (Err (Schedule fault))
        schedule_refused fault amiss =
            record { valid = Some valid; first = at.first; replays = replays_of (Err fault) amiss }

        -- it is replayed
        pub loop_replayed : (o : Outcome) → replayed test program 4096 found.call new.words bounds events ≡ Ok (Ended o)
            → (report : LoopReport)
            → report ≡ record { slot = found.call.slot; answer = pos o.answer; verdict = o.verdict }
            → ReplaysFrom test program argument old.words bounds events
            (Ok (record { number = found.number; report = report; words = o.words }))
        loop_replayed o ended report report_is = record {
          valid = Some valid;
          first = at.first;
          replays = replays_of (Ok (Ended o)) ended
              ∙ ap (λ (n : ℕ). Ok (Ended (record {
                number = n;
                report = record {
                  slot = valid.call.slot;
                  answer = pos o.answer;
                  verdict = o.verdict;
                };
                words = o.words;
              }))) (sym at.is.number)
              ∙ ap (λ (s : ℕ). Ok (Ended (record {
                number = found.number;
                report = record {
                  slot = s;
                  answer = pos o.answer;
                  verdict = o.verdict;
                };
                words = o.words;
              }))) (sym at.is.filled.slot)
              ∙ ap (λ (t : LoopReport). Ok (Ended (record { number = found.number; report = t; words = o.words })))
              (sym report_is);
        }
