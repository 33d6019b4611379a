-- An iteration of a watched loop that goes alone.
use Rattle.std.proofs.Common.{◌≡◌, ℕ, ◌+◌, ◌<◌, ◌==◌, false, true, inl, inr, length, refl, sym, ◌∙◌, ap, arith}
use Rattle.std.proofs.lemmas.{Bool.{cases_eq, cases_lt, both_ways, or_cases}, List.{get_or_past}}
use Rattle.array_maps.{specs.{Accesses.{actions_at}, MapList.{MapList}}, proofs.ElementLaws.{length-words_after_all}}
use Rattle.bpf_insn_types.specs.Program.{Program}
use Rattle.bpf_step_model.specs.State.{LoopCall}
use Rattle.bpf_step.specs.Iterations.{RanCallback}
use Rattle.loop_core_model.specs.Actions.{writes, exposed}
use Rattle.loop_core_undo.specs.declared.{undo_log.UndoLog.{UndoLog}, watched.Watched.{Watched}}
use Rattle.loop_core_undo.specs.{Undo.{is_written}, Watching.{IsWatched, WatchedAll, AccessesAreWatched}}
use Rattle.loop_core_sequential.specs.{declared.watching.Watch.{Watch}, Watched.{RanAndPasses, IsWrittenBelow}}
use Rattle.loop_core_sequential.specs.{Noting.{CanRestore, GoesWatched}, WatchedRuns.{HasMet, WatchedTo}}
use Rattle.loop_core_sequential.proofs.{InOrder.{RanOne, breaks, next}, WatchedLaws.{one_watched, break_watched}}

module _ {program : Program} {call : LoopCall} {index ret steps : ℕ} {start : MapList} {old new : Watched}
    (law : AccessesAreWatched) (below : index < call.n)
    (ran : RanCallback (λ (watched : Watched). watched.maps.now.words) IsWatched program call index old ret steps new)
    (goes : GoesWatched program call index start old.maps.now old.log.now) where
  all : WatchedAll old ran.iterated.accesses new
  all = law old new ran.iterated.accesses ran.effects

  abbrev one : RanOne program call index old.maps.now ret new.maps.now
  one = record {
    it = ran.iterated;
    told = ran.told;
    returned = sym ran.ret_is;
    words = sym ran.words_are;
    sizes = all.sizes;
  }

  unread : new.met ≡ false → (e : ℕ) → e < length start.words → is_written old.log.now e ≡ true
      → exposed (actions_at e ran.iterated.accesses) ≡ false
  unread unmet e inside was = all.unmet unmet e was

  nought : ¬ (ret ≡ 1) → ret ≡ 0
  nought other = omega arith

  -- the start maps can still be restored
  still_restores : CanRestore start new.maps.now new.log.now
  still_restores = record {
    sizes = all.sizes ∙ goes.restores.sizes;
    count = ap length all.words ∙ length-words_after_all ran.iterated.accesses old.maps.now.words
        ∙ goes.restores.count;
    elements = all.count ∙ goes.restores.elements;
    before = λ e inside. all.before e (rw goes.restores.elements inside) ∙ goes.restores.before e inside;
  }

  -- the loop broke off, and passes
  pub broke_alone : new.met ≡ false → ret ≡ 1 → RanAndPasses program call start new.maps.now (index + 1)
  broke_alone unmet is = break_watched goes.watched below one (unread unmet) is

  -- or it goes on
  pub went_alone : new.met ≡ false → ¬ (ret ≡ 1) → GoesWatched program call (index + 1) start new.maps.now new.log.now
  went_alone unmet other = record {
    watched = one_watched goes.watched below one (unread unmet) (is_written new.log.now) (nought other)
        (λ e inside. all.written e (rw goes.restores.elements inside));
    restores = still_restores;
  }

  -- an element that was written when it began was written by an earlier iteration
  written_below : (e : ℕ) → is_written old.log.now e ≡ true → IsWrittenBelow program call start.words index e
  written_below e was = elim (cases_lt e (length start.words)) [
    | inl inside ↦ goes.watched.only e inside was
    | inr past ↦ absurd (both_ways (is_written old.log.now e)
        (get_or_past old.log.now.written.items e false (omega (arith, goes.restores.elements))) was)
  ]

  -- or it met something: it is the last of those that ran so far, and the start maps can be restored
  pub met_alone : old.met ≡ false → new.met ≡ true
      → HasMet program call start new.maps.now new.log.now (record { done = index + 1; broke = ret == 1 })
  met_alone before met =
      let meets = all.met before met in
      record {
        restores = still_restores;
        ends = record {
          reaches = record {
            index = index;
            below = below;
            now = old.maps.now;
            reached = goes.watched.went;
            it = ran.iterated;
            ended = ran.told;
            front = meets.front;
            access = meets.access;
            back = meets.back;
            are = meets.are;
            sees = meets.sees;
            was = elim (or_cases (is_written old.log.now meets.access.element)
                (writes (actions_at meets.access.element meets.front)) meets.was) [
                  | inl was ↦ inl (written_below meets.access.element was)
                  | inr wrote ↦ inr wrote
                ];
          };
          last = refl;
        };
        ran = elim (cases_eq ret 1) [
          | inl is ↦ rw is (breaks goes.watched.went one (index + 1) (omega arith) is)
          | inr other ↦ rw (nought other) (next goes.watched.went one (nought other) below)
        ];
      }

-- the same of maps and a log that are these
pub watched_as : (program : Program) (call : LoopCall) (index : ℕ) (start new last : MapList) (log ended : UndoLog)
    (watch : Watch) → last ≡ new → ended ≡ log → WatchedTo program call index start new log watch
    → WatchedTo program call index start last ended watch
watched_as program call index start new last log ended watch same same_log came = rw (same, same_log) came
