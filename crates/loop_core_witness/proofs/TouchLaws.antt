-- What planes tell of the elements that iterations access.
use Rattle.std.proofs.Common.{◌≡◌, ℕ, ◌<◌, inl, inr, Bool, false, ◌||◌, List, [], ◌∷◌, length, None, refl, sym, ◌∙◌}
use Rattle.std.{proofs.Common.{arith}, specs.List.{list_any}}
use Rattle.std.proofs.lemmas.Bool.{both_ways, cases_Bool, or_parts, true_from_ne_false}
use Rattle.array_maps.specs.declared.access.Op.{Op, TheVariants.{Add, Or, And, Xor, AddH}}
use Rattle.array_maps.specs.Accesses.{Action, Reduce, Access}
use Rattle.bpf_insn_types.specs.Program.{Program}
use Rattle.bpf_step_model.specs.{State.{LoopCall}}
use Rattle.loop_core_model.specs.{declared.loop_test.Test.{Test}, Actions.{reduces_by}}
use Rattle.loop_core_model.specs.{Conflict.{at_element}, Flags.{is_plain}, LeastBreak.{accesses_of_each}}
use Rattle.loop_core_model.specs.{Marks.{actions_of, numbered, marks_of}, Planes.{bit_of}}
use Rattle.loop_core_model.proofs.{OneElement.{is_same-refl}, PlaneLaws.{filter-same}}
use Rattle.shadow_marks.specs.{declared.planes.Planes.{Planes}, Standing.{plane_by, StandAt}}
use Rattle.loop_core_block.specs.{Blocks.{BlockOf}, Ran.{RecordsRun}}
use Rattle.loop_core_witness.specs.{declared.choosing.Span.{Span}, Surveys.{reduces_by_other, does_more}}
use Rattle.loop_core_witness.specs.Touching.{is_some_action, is_accessed, SpanRuns, AreTouched, marked_by}
use Rattle.loop_core_witness.proofs.SurveyLaws.{any_at, other_off}

-- where there are no actions, none passes a test
none_passes : (p : Action → Bool) (all : List (List Action)) → list_any is_some_action all ≡ false
    → list_any (λ actions. list_any p actions) all ≡ false
none_passes p [] none = refl
none_passes p ([] ∷ rest) none = none_passes p rest none
none_passes p ((action ∷ actions) ∷ rest) none = absurd cc

-- and there are none where none is plain or a reduce by an operator
none_left : (all : List (List Action)) → list_any (λ actions. list_any is_plain actions) all ≡ false
    → ((op : Op) → list_any (λ actions. list_any (reduces_by op) actions) all ≡ false)
    → list_any is_some_action all ≡ false
none_left [] plain by = refl
none_left ([] ∷ rest) plain by = none_left rest plain by
none_left ((Reduce op operand ∷ actions) ∷ rest) plain by =
    absurd (let off = rw is_same-refl at (by op) in cc)
none_left ((_ ∷ actions) ∷ rest) plain by = absurd cc

-- planes tell of an element whether an iteration accesses it
marked_is : (planes : Planes) (e first : ℕ) (runs : List (List Access))
    → StandAt planes e (marks_of (numbered first (at_element e runs))) → does_more planes None e ≡ is_accessed runs e
marked_is planes e first runs stand =
    let all = actions_of (numbered first (at_element e runs)) in
    let by = planes.operators in
    let marked : does_more planes None e ≡ list_any is_some_action all =
    elim (cases_Bool (list_any is_some_action all)) [
      | inl some ↦ rw some (true_from_ne_false (does_more planes None e) (λ off.
          let parts = or_parts (bit_of planes.plain.items e) (reduces_by_other by None e) off in
          both_ways (list_any is_some_action all) (none_left all (sym stand.plain ∙ parts.0)
          (λ op. sym (stand.by op) ∙ other_off by None e parts.1 op refl)) some))
      | inr none ↦
          let off : (op : Op) → bit_of (plane_by by op) e ≡ false =
          λ op. stand.by op ∙ none_passes (reduces_by op) all none in
          rw (none, stand.plain ∙ none_passes is_plain all none, off Add, off Or, off And, off Xor, off AddH) refl
    ] in
    marked ∙ any_at e is_some_action runs first

-- what a block's planes tell of each element, and the iterations of its span
module _ {test : Test} {program : Program} {call : LoopCall} {words : List ℕ} {b : BlockOf}
    (ran : RecordsRun test program call words b) where
  marked_in : (e : ℕ) → e < length words → does_more b.planes None e ≡ is_accessed (accesses_of_each ran.ran) e
  marked_in e below = marked_is b.planes e b.first (accesses_of_each ran.ran) (ran.planes.marks e (omega arith))

  span_ran : (span : Span) → b.first ≡ span.from → b.past ≡ span.past
      → SpanRuns program call words span (accesses_of_each ran.ran)
  span_ran span first past = record { ran = ran.ran; ended = rw (← first, ← past) ran.ended; accesses = refl }

-- the elements that the planes of two blocks tell
pub are_touched : (test : Test) (program : Program) (call : LoopCall) (words : List ℕ) (lower upper : Span)
    (below above : BlockOf) (elements : List ℕ) → RecordsRun test program call words below
    → below.first ≡ lower.from → below.past ≡ lower.past → RecordsRun test program call words above
    → above.first ≡ upper.from → above.past ≡ upper.past → elements ≡ marked_by below.planes above.planes
    → AreTouched program call words lower upper elements
are_touched test program call words lower upper below above elements ran first past other other_first other_past
    marked =
    let lower_runs : List (List Access) = accesses_of_each ran.ran in
    let upper_runs : List (List Access) = accesses_of_each other.ran in
    record {
      lower_runs = lower_runs;
      lower_ran = span_ran ran lower first past;
      upper_runs = upper_runs;
      upper_ran = span_ran other upper other_first other_past;
      all = rw (marked, ran.elements) (filter-same
          (λ (e : ℕ). does_more below.planes None e || does_more above.planes None e)
          (λ (e : ℕ). is_accessed lower_runs e || is_accessed upper_runs e) 0 (length words)
          (λ e low high. rw (marked_in ran e (omega arith), marked_in other e (omega arith)) refl));
    }
