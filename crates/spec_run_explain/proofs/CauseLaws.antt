-- Causes of elements that fail a test.
use Rattle.std.proofs.Common.{◌≡◌, ℕ, ◌+◌, ◌<◌, ◌≤◌, List, [], ◌∷◌, ◌++◌, length, take, None, sym, ap, subst, ◌∙◌}
use Rattle.std.specs.{Prelude.{true, false, slice_index_or, is_none}, List.{All, range_with_len}}
use Rattle.std.proofs.lemmas.List.{take_more, take_all, map_push, Elements.{All-take, filter_passes}}
use Rattle.array_maps.specs.Accesses.{Access}
use Rattle.bpf_insn_types.specs.Program.{Program}
use Rattle.bpf_step_model.specs.{State.{LoopCall}, Run.{Ended}}
use Rattle.loop_core_model.specs.{declared.loop_test.Test.{Test}, Actions.{joined, only_operator}}
use Rattle.loop_core_model.specs.Conflict.{fails, at_element, conflicts, conflicting}
use Rattle.loop_core_model.proofs.OneElement.{and_true_right}
use Rattle.spec_run_explain.specs.{declared.conflicts.Conflicts.{Conflicts}, Conflicting.{AreConflicts}}
use Rattle.spec_run_explain.specs.Causes.{FailsAt, cause_elements}
use Rattle.loop_core_witness.specs.{Witnesses.{Explains}, declared.explained.Cause.{Cause}}

-- where a test fails, it doesn't pass
pub fails_here : (test : Test) (program : Program) (call : LoopCall) (words : List ℕ) (element : ℕ)
    → FailsAt test program call words element → Explains test program call words element None → ⊥
fails_here test program call words element here none =
    let same : Ended here.runs ≡ Ended none.runs = sym here.counted ∙ none.counted in
    let one : here.runs ≡ none.runs = cc in
    let both : true ≡ false = sym here.failing
    ∙ ap (λ (runs : List (List Access)). fails test (at_element element runs)) one ∙ none.pair in
    cc

-- a test fails at each of the least elements that conflict
pub all_fail : (test : Test) (program : Program) (call : LoopCall) (words : List ℕ) (most : ℕ) (found : Conflicts)
    → AreConflicts test program call words most found → All (FailsAt test program call words) found.least.items
all_fail test program call words most found are =
    let all : All (FailsAt test program call words) (conflicting test are.runs (length words)) = λ k d below. record {
      runs = are.runs;
      counted = are.counted;
      failing = and_true_right
          (is_none (only_operator (joined (at_element (slice_index_or (conflicting test are.runs (length words)) k d)
          are.runs))))
          (fails test (at_element (slice_index_or (conflicting test are.runs (length words)) k d) are.runs))
          (filter_passes (λ e. conflicts test (at_element e are.runs)) (range_with_len 0 (length words)) k d below);
    } in
    subst (All (FailsAt test program call words)) (sym are.least)
    (All-take (FailsAt test program call words) most (conflicting test are.runs (length words)) all)

-- one more element, and its cause
pub one_more : (causes added : List Cause) (cause : Cause) (elements : List ℕ) (i d : ℕ) → i < length elements
    → added ≡ causes ++ cause ∷ [] → cause.element ≡ slice_index_or elements i d
    → cause_elements causes ≡ take i elements →
    cause_elements added ≡ take (i + 1) elements
one_more causes added cause elements i d below pushed here before =
    ap cause_elements pushed ∙ map_push (λ (c : Cause). c.element) causes cause
    ∙ ap (λ (es : List ℕ). es ++ cause.element ∷ []) before
    ∙ ap (λ (e : ℕ). take i elements ++ e ∷ []) here
    ∙ sym (take_more elements i d below)

-- all of them
pub all_causes : (causes : List Cause) (elements : List ℕ) (i : ℕ) → length elements ≤ i
    → cause_elements causes ≡ take i elements → cause_elements causes ≡ elements
all_causes causes elements i past taken = taken ∙ take_all i elements past
