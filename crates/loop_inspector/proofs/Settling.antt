-- The verdict on a loop by marks of its inspected iterations.
use Rattle.std.proofs.Common.{◌≡◌, ℕ, zero, suc, ◌+◌, ◌-◌, ◌<◌, ◌≤◌, ◌⊎◌, inl, inr, Bool, true, false, ◌==◌, ◌&&◌}
use Rattle.std.proofs.Common.{if◌then◌else◌, List, [], ◌∷◌, ◌++◌, map, length, refl, sym, ap, subst, ◌∙◌, arith, Option}
use Rattle.std.specs.{Prelude.{is_none, Some, None}, List.{filter, list_all, range_with_len}}
use Rattle.std.proofs.lemmas.Bool.{and_from, and_parts, cases_Bool, cases_lt}
use Rattle.std.proofs.lemmas.List.{get_or_append_left, length-append, map-append}
use Rattle.array_maps.specs.Accesses.{Access, Action, actions_at}
use Rattle.array_maps.specs.declared.access.Op.{Op}
use Rattle.bpf_insn_types.specs.Program.{Program}
use Rattle.bpf_step_model.specs.{State.{LoopCall}, Iteration.{Iterated}, Run.{Ended, mapped}}
use Rattle.loop_core_model.specs.declared.{loop_test.Test.{TheVariants.{Flow}}, verdict.Verdict.{Verdict}}
use Rattle.loop_core_model.specs.Actions.{exposed, joined, only_operator, reduces_by, writes}
use Rattle.loop_core_model.specs.Conflict.{FailingPair, at_element, conflicting, conflicts, fails_flow}
use Rattle.loop_core_model.specs.Planes.{bit_of}
use Rattle.loop_core_model.specs.{Marks.{Visit, marked_conflict, marks_of}, Report.{judged, verdict}}
use Rattle.loop_core_model.specs.LeastBreak.{is_break}
use Rattle.loop_core_model.proofs.{FailingPairs.{fails_by_pair}, KeptLaws.{joined-append}, MarkLaws.{marks_tell}}
use Rattle.loop_core_model.proofs.{OneElement.{all_parts, only_reduces}, PlaneLaws.{range-append}}
use Rattle.shadow_marks.specs.{declared.planes.Planes.{Planes}, Standing.{test_of}}
use Rattle.loop_marks.{specs.Visits.{visits_below}, proofs.VisitLaws.{visits_are}}
use Rattle.loop_inspector.specs.{Inspections.{AreInspected, IsVerdictAt}, Open.{IsInSome}}
use Rattle.loop_inspector.specs.declared.reach.Span.{Span}
use Rattle.loop_inspector.proofs.{Conflicts.{at_these, by_actions}, Passing.{Ran, same_ended}}

-- what conflicts still does with more iterations at the end
flow_more : (A B : List (List Action)) → fails_flow A ≡ true → fails_flow (A ++ B) ≡ true
flow_more A B h =
    let pair : FailingPair Flow A = (fails_by_pair Flow A).0 h in
    let long : length (A ++ B) ≡ length A + length B = length-append A B in
    (fails_by_pair Flow (A ++ B)).1 (record {
      writer = pair.writer;
      reader = pair.reader;
      writer_within = omega (arith, long, pair.writer_within);
      reader_within = omega (arith, long, pair.reader_within);
      opposed = pair.opposed;
      writing = ap writes (get_or_append_left A B [] pair.writer pair.writer_within) ∙ pair.writing;
      reading = ap exposed (get_or_append_left A B [] pair.reader pair.reader_within) ∙ pair.reading;
    })

conflict_more : (A B : List (List Action)) → conflicts Flow A ≡ true → conflicts Flow (A ++ B) ≡ true
conflict_more A B h = go (only_operator (joined (A ++ B))) refl
  where
    go : (o : Option Op) → only_operator (joined (A ++ B)) ≡ o → conflicts Flow (A ++ B) ≡ true
    go None is = and_from (is_none (only_operator (joined (A ++ B)))) (fails_flow (A ++ B)) (ap is_none is)
        (flow_more A B (and_parts (is_none (only_operator (joined A))) (fails_flow A) h).1)
    go (Some op) is =
        let all : list_all (reduces_by op) (joined A ++ joined B) ≡ true =
        ap (list_all (reduces_by op)) (sym (joined-append A B)) ∙ only_reduces op (joined (A ++ B)) is in
        let none = by_actions Flow op A (joined A) refl (all_parts (reduces_by op) (joined A) (joined B) all).0 in
        absurd (cc (none, h))

-- of numbers that pass tests one list has no more, and all where it has as many
record AreAmong (few many : List ℕ) : Type 0 where
  fewer : length few ≤ length many
  same : length many ≤ length few → few ≡ many

among : (p q : ℕ → Bool) (from count : ℕ) → ((e : ℕ) → from ≤ e → e < from + count → p e ≡ true → q e ≡ true)
    → AreAmong (filter p (range_with_len from count)) (filter q (range_with_len from count))
among p q from zero each = record { fewer = omega arith; same = λ long. refl }
among p q from (suc count) each =
    go (p from) (q from) (each from (omega arith) (omega arith)) _ _
    (among p q (from + 1) count (λ e low high. each e (omega (arith, low)) (omega (arith, high))))
  where
    go : (a b : Bool) → (a ≡ true → b ≡ true) → (few many : List ℕ) → AreAmong few many
        → AreAmong (if a then from ∷ few else few) (if b then from ∷ many else many)
    go true true each few many rest = record {
      fewer = omega (arith, rest.fewer);
      same = λ long. ap (λ (es : List ℕ). from ∷ es) (rest.same (omega (arith, long)));
    }
    go true false each few many rest = absurd (let no = each refl in cc)
    go false true each few many rest = record {
      fewer = omega (arith, rest.fewer);
      same = λ long. absurd (omega (arith, long, rest.fewer));
    }
    go false false each few many rest = rest

-- iterations that do the same at an element
pub same_at : (made other : ℕ → List Access) (e from count : ℕ)
    → ((i : ℕ) → i < from + count → actions_at e (made i) ≡ actions_at e (other i))
    → at_these made e from count ≡ at_these other e from count
same_at made other e from zero each = refl
same_at made other e from (suc count) each =
    rw (each from (omega arith), same_at made other e (from + 1) count (λ i high. each i (omega (arith, high)))) refl

-- as many elements conflict by a verdict as these are
pub record IsSettled (found : Verdict) (elements : List ℕ) : Type 0 where
  pub count : ℕ
  pub counts : (es : List ℕ) → found ≡ judged es → count ≡ length es
  pub all : count ≡ length elements

module _ (program : Program) (call : LoopCall) (spans : List Span) (words plane : List ℕ)
    (ran : Ran program call spans words) (closed : (e : ℕ) → e < length words → bit_of plane e ≡ false
    → IsInSome spans e → ⊥) (index : ℕ) (within : index ≤ call.n) (planes : Planes)
    (are : AreInspected program call words plane index planes) (test : test_of planes.tested ≡ Flow)
    (elements : planes.elements ≡ length words) (found : Verdict) (is : IsVerdictAt plane planes found) where
  abbrev at_count : ℕ → (e : ℕ) → Bool
  at_count count e = conflicts Flow (at_these ran.accesses e 0 count)

  abbrev truly : ℕ → Bool
  truly e = at_count ran.count e

  abbrev by_marks : ℕ → Bool
  by_marks e = marked_conflict Flow (marks_of (visits_below are.made index e))

  abbrev marked : ℕ → Bool
  marked e = by_marks e && bit_of plane e

  -- an inspected iteration's accesses are those of its lane
  accesses_are : (i : ℕ) → (below : i < index) → (are.each i below).accesses ≡ ran.accesses i
  accesses_are i below =
      let one = are.each i below in
      let other = ran.each i (omega (arith, below, within)) in
      sym one.ends.made ∙ ap (λ (it : Iterated). it.accesses) (same_ended one.ends.iterated other.0 (sym
      one.ends.ended ∙
      other.1)) ∙ other.2

  -- so marks at open elements are of what the iterations do
  at_open : (e : ℕ) → bit_of plane e ≡ true → by_marks e ≡ at_count index e
  at_open e bit =
      ap (λ (visits : List Visit). marked_conflict Flow (marks_of visits)) (sym (visits_are are.made e index))
      ∙ sym (marks_tell.conflict Flow 0 (at_these are.made e 0 index))
      ∙ ap (conflicts Flow) (same_at are.made ran.accesses e 0 index (λ i high.
      let below : i < index = omega (arith, high) in
      (are.each i below).same e bit ∙ ap (actions_at e) (accesses_are i below)))

  -- at least the inspected iterations count
  counts : index ≤ ran.count
  counts = elim ran.counts.ending [
    | inl all ↦ omega (arith, all.0, within)
    | inr broke ↦ elim (cases_lt broke.0 index) [
      | inl below ↦
          let one = are.each broke.0 below in
          absurd (let no = sym broke.2 ∙ ap is_break one.ends.ended ∙ ap (λ (n : ℕ). n == 1) one.ends.returned in cc)
      | inr past ↦ omega (arith, past, broke.1)
    ]
  ]

  -- marks at open elements are of real conflicts, and these are at open elements alone
  real : (e : ℕ) → marked e ≡ true → truly e ≡ true
  real e h =
      let both = and_parts (by_marks e) (bit_of plane e) h in
      let more = ran.count - index in
      let all : index + more ≡ ran.count = omega (arith, counts) in
      subst (λ (count : ℕ). at_count count e ≡ true) all
      (ap (conflicts Flow) (ap (λ (is : List ℕ). at_element e (map ran.accesses is)) (range-append 0 index more)
      ∙ ap (at_element e) (map-append ran.accesses (range_with_len 0 index) (range_with_len (0 + index) more))
      ∙ map-append (actions_at e) (map ran.accesses (range_with_len 0 index)) _)
      ∙ conflict_more (at_these ran.accesses e 0 index) (at_these ran.accesses e (0 + index) more)
      (sym (at_open e both.1) ∙ both.0))

  is_open : (e : ℕ) → e < length words → truly e ≡ true → bit_of plane e ≡ true
  is_open e below h = elim (cases_Bool (bit_of plane e)) [
    | inl bit ↦ bit
    | inr bit ↦ absurd (let none = ran.calm ran.count e ran.counts.within (closed e below bit) in cc (none, h))
  ]

  abbrev all_that : (ℕ → Bool) → List ℕ
  all_that test = filter test (range_with_len 0 (length words))

  found_is : found ≡ judged (all_that marked)
  found_is = rw (test, elements) at (is (visits_below are.made index) are.marked)

  -- no more conflict where all iterations are inspected, or all open elements conflict
  no_more : (index ≡ call.n) ⊎ IsSettled found (all_that (bit_of plane))
      → length (all_that truly) ≤ length (all_that marked)
  no_more (inl all) =
      let same : ran.count ≡ index = omega (arith, counts, ran.counts.within, all) in
      (among truly marked 0 (length words) (λ e low high h.
      let bit = is_open e (omega (arith, high)) h in
      and_from (by_marks e) (bit_of plane e) (at_open e bit ∙ ap (λ (n : ℕ). at_count n e) (sym same) ∙ h) bit)).fewer
  no_more (inr done) =
      let few = among truly (bit_of plane) 0 (length words) (λ e low high. is_open e (omega (arith, high))) in
      omega (arith, few.fewer, done.counts (all_that marked) found_is, done.all)

  -- so the verdict is that of the marks
  pub is_verdict : (index ≡ call.n) ⊎ IsSettled found (all_that (bit_of plane))
      → verdict Flow program 4096 call words ≡ Ended found
  is_verdict done =
      ap (mapped (λ (runs : List (List Access)). judged (conflicting Flow runs (length words)))) ran.told
      ∙ ap (λ (es : List ℕ). Ended (judged es)) (sym ((among marked truly 0 (length words) (λ e low high. real e)).same
      (no_more done))) ∙ ap Ended (sym found_is)
