-- What a block of a whole loop tells of its conflicts.
use Rattle.std.proofs.Common.{◌≡◌, ℕ, ◌+◌, ◌-◌, List, length, take, sym, ap, ◌∙◌, subst, arith}
use Rattle.std.specs.List.{filter, range_with_len}
use Rattle.array_maps.specs.{Accesses.{Access}, MapList.{AreWords}}
use Rattle.bpf_insn_types.specs.Program.{Program}
use Rattle.bpf_step_model.specs.{State.{LoopCall}, Run.{BoundedResult, Ended, mapped}, Iteration.{Iterated, iteration}}
use Rattle.loop_core_model.specs.{declared.loop_test.Test.{Test}, Conflict.{conflicts, at_element, conflicting}}
use Rattle.loop_core_model.specs.{LeastBreak.{accesses_of_each, least_break, counted_runs}, Report.{judged}}
use Rattle.loop_core_model.specs.{Marks.{Visit, marks_of, marked_conflict}, Planes.{elements_in_plane, plane_verdict}}
use Rattle.loop_core_model.{specs.{Scan.{scan}, Block.{block_run, break_from}}, proofs.Least.{least_is}}
use Rattle.loop_core_model.proofs.{FirstBreak.{FirstIs, one_first, breaking, scan_first}, MarkLaws.{marks_tell}}
use Rattle.loop_core_model.proofs.{ScanLaws.{counted_are_scanned}, PlaneBits.{plane_judges}, PlaneLaws.{filter-same}}
use Rattle.shadow_marks.specs.Standing.{StandFor, test_of}
use Rattle.private_copy.specs.Visits.{visits_of}
use Rattle.loop_core_block.specs.{Blocks.{BlockOf}, Ran.{RecordsRun}}
use Rattle.spec_run_explain.specs.{declared.conflicts.Conflicts.{Conflicts}, Conflicting.{AreConflicts}}

-- the counted iterations are those of a block of all indices
counted_is : (program : Program) (call : LoopCall) (words : List ℕ) (past : ℕ) (ran : List Iterated) → past ≡ call.n
    → block_run program 4096 call words 0 past ≡ Ended ran →
    counted_runs program 4096 call words ≡ Ended (accesses_of_each ran)
counted_is program call words past ran all told =
    let n : past - 0 ≡ call.n = omega (arith, all) in
    ap (mapped accesses_of_each) (counted_are_scanned program 4096 call words
    ∙ ap (λ (k : ℕ). scan (λ index. iteration program 4096 call index words) k 0) (sym n) ∙ told)

-- and it broke at the least break
break_is : (program : Program) (call : LoopCall) (words : List ℕ) (past : ℕ) (ran : List Iterated) → past ≡ call.n
    → block_run program 4096 call words 0 past ≡ Ended ran →
    break_from 0 ran ≡ least_break program 4096 call words
break_is program call words past ran all told =
    let iterate : ℕ → BoundedResult Iterated = λ index. iteration program 4096 call index words in
    let n : 0 + (past - 0) ≡ call.n = omega (arith, all) in
    one_first (breaking iterate) call.n (break_from 0 ran) (least_break program 4096 call words)
    (subst (λ (m : ℕ). FirstIs (breaking iterate) 0 m (break_from 0 ran)) n (scan_first iterate (past - 0) 0 ran told))
    (least_is (breaking iterate) call.n)

-- what its planes tell
pub are_conflicts : (test : Test) (program : Program) (call : LoopCall) (words : List ℕ) (most : ℕ) (b : BlockOf)
    (plane : List ℕ) (found : Conflicts) → RecordsRun test program call words b →
    b.first ≡ 0 → b.past ≡ call.n → AreWords plane →
    ((visits : ℕ → List Visit) → StandFor b.planes visits → elements_in_plane plane
    ≡ filter (λ e. marked_conflict (test_of b.planes.tested) (marks_of (visits e)))
    (range_with_len 0 b.planes.elements)) → found.verdict ≡ plane_verdict plane
    → found.broke ≡ b.broke → found.least.items ≡ take most (elements_in_plane plane)
    → AreConflicts test program call words most found
are_conflicts test program call words most b plane found records first past fit tells judges broke listed =
    let runs : List (List Access) = accesses_of_each records.ran in
    let elements : elements_in_plane plane ≡ conflicting test runs (length words) =
    tells (visits_of b.first runs) records.planes
    ∙ ap (λ (n : ℕ). filter (λ e. marked_conflict (test_of b.planes.tested) (marks_of (visits_of b.first runs e)))
    (range_with_len 0 n)) records.elements
    ∙ ap (λ (t : Test). filter (λ e. marked_conflict t (marks_of (visits_of b.first runs e)))
    (range_with_len 0 (length words))) records.test_is
    ∙ filter-same (λ e. marked_conflict test (marks_of (visits_of b.first runs e)))
    (λ e. conflicts test (at_element e runs)) 0 (length words)
    (λ e low high. sym (marks_tell.conflict test b.first (at_element e runs))) in
    record {
      runs = runs;
      counted = counted_is program call words b.past records.ran past
          (subst (λ (f : ℕ). block_run program 4096 call words f b.past ≡ Ended records.ran) first records.ended);
      broke = broke ∙ records.broke ∙ ap (λ (f : ℕ). break_from f records.ran) first
          ∙ break_is program call words b.past records.ran past
          (subst (λ (f : ℕ). block_run program 4096 call words f b.past ≡ Ended records.ran) first records.ended);
      verdict = judges ∙ plane_judges.verdict plane fit ∙ ap judged elements;
      least = listed ∙ ap (take most) elements;
    }
