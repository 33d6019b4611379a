-- The loop in order does again what the counted iterations did on the start words.
use Rattle.std.proofs.Common.{◌≡◌, ℕ, suc, ◌+◌, Bool, true, false, List, [], ◌∷◌, length, refl, sym, ◌∙◌}
use Rattle.std.{proofs.Common.{ap, ap₂, arith, add-zero}, specs.Prelude.{if◌then◌else◌, ◌==◌}}
use Rattle.std.{specs.List.{AllByRecursion}, proofs.lemmas.List.{append-nil}}
use Rattle.std.proofs.lemmas.List.FromFn.{length-map-range_with_len}
use Rattle.array_maps.{specs.Accesses.{Action, Access, words_after_all}, proofs.ElementLaws.{length-words_after_all}}
use Rattle.bpf_insn_types.specs.Program.{Program}
use Rattle.bpf_step_model.specs.{State.{LoopCall}, Run.{BoundedResult, Ended, followed}}
use Rattle.bpf_step_model.{specs.Iteration.{Iterated, iteration}, proofs.Endings.{mapped_from}}
use Rattle.bpf_step_model.specs.LoopInOrder.{Looped, behind, loop_from}
use Rattle.loop_core_model.specs.{declared.loop_test.Test.{Test, TheVariants.{Lrpd, Flow}}, Scan.{scan}}
use Rattle.loop_core_model.specs.{Actions.{joined}, Law.{LoopLaw}}
use Rattle.loop_core_model.specs.Conflict.{conflicts, at_element, conflicting}
use Rattle.loop_core_model.specs.LeastBreak.{counted, counted_iterations, all_ended, accesses_of_each}
use Rattle.loop_core_model.proofs.{FlowLaws.{narrower}, OneElement.{Unharmed}, Turns.{all_committed}}
use Rattle.loop_core_model.proofs.Turns.{Saws, InTurn, UnharmedEach, words_after_all-append, in_turn_at_start}
use Rattle.loop_core_model.proofs.{RunAgain.{iteration_local}, Least.{filter_none}, ScanLaws.{counted_are_scanned}}
use Rattle.loop_core_model.proofs.BlockLaws.{of_scan}

-- as many ended
ended_length : {A : Type 0} (endings : List (BoundedResult A)) (all : List A) → all_ended endings ≡ Ended all
    → length all ≡ length endings
ended_length [] all h = let none : [] ≡ all = cc in ap length (sym none)
ended_length (Ended a ∷ endings) all h =
    let parts = mapped_from (λ others. a ∷ others) (all_ended endings) all h in
    ap length parts.2 ∙ ap (λ n. suc n) (ended_length endings parts.0 parts.1)
ended_length (_ ∷ endings) all h = absurd (cc)

-- the loop's end
abbrev pub loop_end : ℕ → List ℕ → BoundedResult Looped
loop_end answer words = Ended (record { answer = answer; words = words })

module _ (program : Program) (bound : ℕ) (call : LoopCall) (start : List ℕ) where
  -- an iteration on the start words
  abbrev pub speculated : ℕ → BoundedResult Iterated
  speculated index = iteration program bound call index start

  -- what is claimed of a scan that ended: its iterations saw the start words; and the loop in order, from words that
  -- fit them in turn, does the same
  abbrev pub GoesAgain : (left index : ℕ) → List Iterated → Type 0
  GoesAgain left index its = AllByRecursion (λ accesses. Saws accesses start) (accesses_of_each its)
      × ((now : List ℕ) → length now ≡ length start → InTurn (accesses_of_each its) now
      → loop_from program bound call left index now
      ≡ loop_end (index + length its) (words_after_all (joined (accesses_of_each its)) now))

  -- one iteration of the loop in order, where it sees the same
  pub step_again : (left index : ℕ) (now : List ℕ) (it : Iterated) (one : Bool) → speculated index ≡ Ended it
      → (it.ret == 1) ≡ one → length now ≡ length start → Saws it.accesses now
      → loop_from program bound call (suc left) index now
      ≡ (if one then loop_end (index + 1) (words_after_all it.accesses now)
      else loop_from program bound call left (index + 1) (words_after_all it.accesses now))
  step_again left index now it one same ret long saws =
      ap (followed (behind (loop_from program bound call left (index + 1)) index))
      ((iteration_local program bound call index).again start now it same long saws) ∙ rw ret refl

  goes_on : (left index : ℕ) (it : Iterated) (its : List Iterated) → speculated index ≡ Ended it
      → (it.ret == 1) ≡ false → GoesAgain left (index + 1) its → GoesAgain (suc left) index (it ∷ its)
  goes_on left index it its same on rest = (
    ((iteration_local program bound call index).saw start it same, rest.0),
    λ now long turns.
        let answer : index + 1 + length its ≡ index + suc (length its) = omega arith in
        step_again left index now it false same on long turns.0
        ∙ rest.1 (words_after_all it.accesses now) (length-words_after_all it.accesses now ∙ long) turns.1
        ∙ ap₂ loop_end answer (sym (words_after_all-append it.accesses (joined (accesses_of_each its)) now)),
  )

  loop_again : (left index : ℕ) (its : List Iterated) → scan speculated left index ≡ Ended its
      → GoesAgain left index its
  loop_again = of_scan speculated GoesAgain
      (λ index. (tt, λ now long turns. ap (λ answer. loop_end answer now) (sym (add-zero index))))
      (λ left index it same one. (
        ((iteration_local program bound call index).saw start it same, tt),
        λ now long turns. step_again left index now it true same one long turns.0
            ∙ ap (λ accesses. loop_end (index + 1) (words_after_all accesses now)) (sym (append-nil it.accesses)),
      ))
      goes_on

-- what doesn't conflict by either test is unharmed
not_harmed : (test : Test) (iterations : List (List Action)) → conflicts test iterations ≡ false → Unharmed iterations
not_harmed Lrpd iterations h = narrower iterations h
not_harmed Flow iterations h = h

-- what passes is unharmed
passes_unharmed : (test : Test) (runs : List (List Access)) (elements : ℕ) → conflicting test runs elements ≡ []
    → UnharmedEach runs elements
passes_unharmed test runs elements none e inside =
    not_harmed test (at_element e runs)
    (filter_none (λ e. conflicts test (at_element e runs)) 0 elements none e (omega arith) (omega arith))

pub loop_law : LoopLaw
loop_law test program bound call words runs same none =
    let iterations : List (BoundedResult Iterated) = counted_iterations program bound call words in
    let parts = mapped_from accesses_of_each (all_ended iterations) runs same in
    let its : List Iterated = parts.0 in
    let again : GoesAgain program bound call words call.n 0 its = loop_again program bound call words call.n 0 its
    (sym (counted_are_scanned program bound call words) ∙ parts.1) in
    let all : 0 + length its ≡ length its = omega arith in
    let answer : 0 + length its ≡ counted program bound call words =
    all ∙ ended_length iterations its parts.1 ∙ length-map-range_with_len (speculated program bound call words) 0 _ in
    let unharmed : UnharmedEach (accesses_of_each its) (length words) =
    passes_unharmed test (accesses_of_each its) (length words) (rw parts.2 at none) in
    rw parts.2 (again.1 words refl (in_turn_at_start (accesses_of_each its) words again.0 unharmed)
    ∙ ap₂ loop_end answer (all_committed (accesses_of_each its) words unharmed))
