-- One iteration more.
use Rattle.std.proofs.Common.{◌≡◌, ℕ, ◌+◌, ◌==◌, Bool, List, [], ◌∷◌, ◌++◌, length, ◌∙◌, ap, arith}
use Rattle.std.proofs.lemmas.List.{map-append, length-map, length-append}
use Rattle.array_maps.specs.{Accesses.{Access}, Store.{Effects}}
use Rattle.bpf_step_model.specs.{Run.{Ended}, Iteration.{Iterated, iteration}}
use Rattle.loop_core_model.specs.LeastBreak.{accesses_of_each}
use Rattle.shadow_marks.specs.{Standing.{StandFor}, Ending.{KeepsShape}}
use Rattle.private_copy.specs.{declared.private.Private.{Private}, Copies.{CopyRecords, CopyRecordsWithin}}
use Rattle.private_copy.specs.{CopyLaw.{AccessEffect, AccessesFollow}, Shown.{copy_of, IsBegun, IsEnded}}
use Rattle.private_copy.specs.Visits.{visits_of}
use Rattle.loop_core_block.specs.{declared.runner.Runner.{Runner}, Runs.{start_words, RunnerHasRun, RanOneMore}}

-- accesses don't end the iteration under way
pub still_under_way : (old new : Private) (more : List Access) → Effects AccessEffect old more new
    → (copy_of new).under_way ≡ (copy_of old).under_way
still_under_way old new [] same = ap (λ (p : Private). (copy_of p).under_way) same
still_under_way old new (access ∷ more) effects = still_under_way effects.0 new more effects.2 ∙ effects.1.under_way

-- an iteration that was begun, made its accesses and ended
module _ (law : AccessesFollow) (old new : Runner) (index need : ℕ) (begun run : Private) (it : Iterated)
    (begins : IsBegun (copy_of old.copy) need (copy_of begun))
    (within : (runs : List (List Access)) → CopyRecords (copy_of old.copy) runs → CopyRecordsWithin (copy_of begun) runs
    [])
    (iterated : iteration old.callback.program 4096 old.callback.call index (start_words old) ≡ Ended it)
    (effects : Effects AccessEffect begun it.accesses run)
    (callback : new.callback ≡ old.callback) (most : new.most ≡ old.most)
    (ended : IsEnded (copy_of run) (copy_of new.copy)) (shape : KeepsShape old.planes new.planes)
    (planes : (first : ℕ) (runs : List (List Access)) (accesses : List Access) → index ≡ first + length runs
    → CopyRecordsWithin (copy_of run) runs accesses →
    StandFor old.planes (visits_of first runs) → StandFor new.planes (visits_of first (runs ++ accesses ∷ [])))
    (records : (runs : List (List Access)) (accesses : List Access) → CopyRecordsWithin (copy_of run) runs accesses
    → CopyRecords (copy_of new.copy) (runs ++ accesses ∷ [])) where
  same_start : start_words new ≡ start_words old
  same_start = ended.start ∙ law.start begun run it.accesses effects ∙ begins.start

  one_begun : (copy_of new.copy).begun ≡ (copy_of old.copy).begun + 1
  one_begun = ended.begun ∙ law.begun begun run it.accesses effects ∙ begins.begun

  has_run : (first : ℕ) (before : List Iterated) → RunnerHasRun first index before old
      → RunnerHasRun first (index + 1) (before ++ it ∷ []) new
  has_run first before has =
      let runs : List (List Access) = accesses_of_each before in
      let here : CopyRecordsWithin (copy_of run) runs it.accesses =
      law.records begun run runs [] it.accesses (within runs has.copy) effects in
      let reached = has.reached in
      let was = has.begun in
      let one = one_begun in
      record {
        reached = simp length-append (omega arith);
        begun = simp length-append (omega arith);
        copy = rw map-append (records runs it.accesses here);
        elements = shape.elements ∙ rw same_start has.elements;
        planes = rw map-append (planes first runs it.accesses (rw length-map reached) here has.planes);
      }

  pub one_more : (broke : Bool) → broke ≡ (it.ret == 1) → RanOneMore index old new broke
  one_more broke is = record {
    same = record { callback = callback; most = most; start = same_start; test = shape.test };
    iterated = it;
    ended = iterated;
    broke_is = is;
    has_run = has_run;
  }
