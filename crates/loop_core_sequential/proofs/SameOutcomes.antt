-- Calls with the same iterations are the same loop, and have the same verdict and outcome.
use Rattle.std.proofs.Common.{◌≡◌, ℕ, zero, suc, ◌+◌, ◌<◌, ◌==◌, List, None, length, inl, inr, refl, sym, ap, ◌∙◌}
use Rattle.std.proofs.{Common.{arith}, lemmas.Bool.{cases_Bool}}
use Rattle.array_maps.specs.Accesses.{Access}
use Rattle.bpf_insn_types.specs.Program.{Program}
use Rattle.bpf_step_model.specs.{State.{LoopCall}, Run.{BoundedResult, Ended, mapped, followed}}
use Rattle.bpf_step_model.specs.{Iteration.{Iterated, iteration}, LoopInOrder.{behind, loop_from, loop_in_order}}
use Rattle.bpf_verify_sound.specs.Soundness.{IsSoundProgram, AreMapWords, OverApproximatesCall, IterationEnds}
use Rattle.bpf_verify_sound.specs.Soundness.{EachProgramEnds, EachCountIsSmall, callback_count}
use Rattle.bpf_step.{specs.Turns.{IsFilled}, proofs.Limits.{iterations_end}}
use Rattle.loop_core_model.specs.{declared.{loop_test.Test.{Test}, verdict.Verdict.{Verdict}}, Conflict.{conflicting}}
use Rattle.loop_core_model.specs.LeastBreak.{is_break, counted_iterations, all_ended, accesses_of_each}
use Rattle.loop_core_model.specs.{Report.{judged, verdict}, Scan.{scan}, Split.{split_fault}, Schedule.{replay}}
use Rattle.loop_core_model.{specs.declared.event.Event.{Event}, proofs.ScanLaws.{counted_are_scanned}}
use Rattle.loop_core_model.specs.Outcome.{Outcome, judged_as, outcome, breaks_at, unless_fault, replayed}
use Rattle.loop_core_sequential.specs.FilledCalls.{FilledCallsAreOneLoop}
use Rattle.loop_core_sequential.proofs.SameReplays.{same_replay}

-- the same iterations are scanned the same
scan_same : (f g : ℕ → BoundedResult Iterated) (left index n : ℕ) → index + left ≡ n
    → ((i : ℕ) → i < n → f i ≡ g i) → scan f left index ≡ scan g left index
scan_same f g zero index n all same = refl
scan_same f g (suc left) index n all same =
    rw (same index (omega arith), scan_same f g left (index + 1) n (omega arith) same) refl

module _ (laws : EachProgramEnds) (counts : EachCountIsSmall) (program : Program) (sound : IsSoundProgram program)
    (made call : LoopCall) (filled : IsFilled program made call) (known : OverApproximatesCall program call) where
  abbrev On : ℕ → ℕ → Type 0
  On left index = (words : List ℕ) → AreMapWords program words → loop_from program 4096 call left index words
      ≡ loop_from program 4096 made left index words

  followed_same : (left index : ℕ) → On left (index + 1) → (e : BoundedResult Iterated)
      → IterationEnds program (callback_count program call) e →
      followed (behind (loop_from program 4096 call left (index + 1)) index) e
      ≡ followed (behind (loop_from program 4096 made left (index + 1)) index) e
  followed_same left index rest (Ended it) ends = elim (cases_Bool (it.ret == 1)) [
    | inl one ↦ rw one refl
    | inr on ↦ rw on (rest it.words ends.2)
  ]
  followed_same left index rest _ ends = absurd ends

  same_from : (left index : ℕ) → index + left ≡ call.n → On left index
  same_from zero index all words fit = refl
  same_from (suc left) index all words fit =
      followed_same left index (same_from left (index + 1) (omega arith)) (iteration program 4096 call index words)
      (iterations_end laws counts program sound call known index (omega arith) words fit)
      ∙ ap (followed (behind (loop_from program 4096 made left (index + 1)) index))
      (filled.same 4096 index (omega arith) words fit)

  module _ (words : List ℕ) (fit : AreMapWords program words) where
    same_iteration : (index : ℕ) → index < call.n
        → iteration program 4096 call index words ≡ iteration program 4096 made index words
    same_iteration index below = filled.same 4096 index (omega arith) words fit

    same_in_order : loop_in_order program 4096 call words ≡ loop_in_order program 4096 made words
    same_in_order = same_from call.n 0 (omega arith) words fit
        ∙ ap (λ (n : ℕ). loop_from program 4096 made n 0 words) filled.n

    same_ended : all_ended (counted_iterations program 4096 call words)
        ≡ all_ended (counted_iterations program 4096 made words)
    same_ended =
        counted_are_scanned program 4096 call words
        ∙ scan_same (λ i. iteration program 4096 call i words) (λ i. iteration program 4096 made i words) call.n 0
        call.n (omega arith) same_iteration
        ∙ ap (λ (n : ℕ). scan (λ i. iteration program 4096 made i words) n 0) filled.n
        ∙ sym (counted_are_scanned program 4096 made words)

    same_verdict : (test : Test) → verdict test program 4096 call words ≡ verdict test program 4096 made words
    same_verdict test = ap (λ (its : BoundedResult (List Iterated)). mapped (λ (runs : List (List Access)).
        judged (conflicting test runs (length words))) (mapped accesses_of_each its)) same_ended

    same_outcome : (test : Test) → outcome test program 4096 call words ≡ outcome test program 4096 made words
    same_outcome test =
        ap (λ (v : BoundedResult Verdict). followed (judged_as v) (loop_in_order program 4096 call words))
        (same_verdict test)
        ∙ ap (followed (judged_as (verdict test program 4096 made words))) same_in_order

    same_replayed : (test : Test) (bounds : List ℕ) (events : List Event) → split_fault bounds call.n ≡ None →
        replayed test program 4096 call words bounds events ≡ replayed test program 4096 made words bounds events
    same_replayed test bounds events fine =
        ap (unless_fault (outcome test program 4096 call words))
        (same_replay call.n bounds (breaks_at program 4096 call words) (breaks_at program 4096 made words) fine
        (λ index below. ap is_break (same_iteration index below)) events)
        ∙ ap (λ (o : BoundedResult Outcome). unless_fault o (replay (breaks_at program 4096 made words) bounds events))
        (same_outcome test)

pub filled_calls_are_one_loop : EachProgramEnds → EachCountIsSmall → FilledCallsAreOneLoop
filled_calls_are_one_loop laws counts program sound made call filled known words fit = record {
  orders = same_in_order laws counts program sound made call filled known words fit;
  judges = same_verdict laws counts program sound made call filled known words fit;
  comes_to = same_outcome laws counts program sound made call filled known words fit;
  replays = same_replayed laws counts program sound made call filled known words fit;
}
