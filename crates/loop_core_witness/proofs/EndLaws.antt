-- The access by which an element isn't reduction-only.
use Rattle.std.proofs.Common.{◌≡◌, ℕ, zero, suc, ◌+◌, ◌-◌, ◌≤◌, ◌<◌, inl, inr, false, List, ◌++◌, take, Option, Some}
use Rattle.std.proofs.Common.{None, refl, subst, add-one, arith}
use Rattle.std.proofs.lemmas.{Bool.{cases_Bool}, List.{append-nil, take_all}}
use Rattle.array_maps.specs.{declared.access.Op.{Op}, Accesses.{Action, Access, actions_at}}
use Rattle.bpf_insn_types.specs.Program.{Program}
use Rattle.bpf_step_model.specs.{State.{LoopCall}, Run.{BoundedResult, Ended}, Iteration.{Iterated, iteration}}
use Rattle.loop_core_model.specs.{Actions.{is_same, joined}, Conflict.{at_element}, LeastBreak.{accesses_of_each}}
use Rattle.loop_core_model.proofs.OneElement.{same_op}
use Rattle.loop_core_trace.specs.declared.{following.Trace.{Trace}, slots.FirstReduce.{FirstReduce}}
use Rattle.loop_core_trace.specs.Places.{AccessesAt, FirstReduceAt, OtherAccessAt}
use Rattle.loop_core_trace.specs.Traced.{ReduceIs, OtherIs, IsTraceOf}
use Rattle.loop_core_witness.specs.{Breaks.{AreCounted}}
use Rattle.loop_core_witness.specs.Reductions.{AreQuiet, EndsReduction, HasEnd, operator_after, end_slot}
use Rattle.loop_core_witness.proofs.Runs.{AllRan, all_counted, runs_counted}
use Rattle.loop_core_witness.proofs.ReductionLaws.{joined-take, IsKept, IsOff, Fits, goes_on, kept_more, off_more}
use Rattle.loop_core_witness.proofs.ReductionLaws.{off_other, kept_reduces, kept_ends, kept_quiet}

module _ (program : Program) (call : LoopCall) (words : List ℕ) (element : ℕ) where
  abbrev Iterate : ℕ → BoundedResult Iterated
  Iterate index = iteration program 4096 call index words

  abbrev Iterations : {count : ℕ} → AllRan Iterate 0 count → List (List Action)
  Iterations ran = at_element element (accesses_of_each ran.its)

  -- what the iterations below an index did at the element is reduces by this operator
  abbrev pub KeptUpTo : (count : ℕ) → Option Op → (index : ℕ) → Type 0
  KeptUpTo count kept index = (ran : AllRan Iterate 0 count) → IsKept kept (joined (take index (Iterations ran)))

  pub none_yet : (count : ℕ) → KeptUpTo count None 0
  none_yet count ran = refl

  -- an iteration more, with which what is kept goes on
  one_more : (count : ℕ) (kept next : Option Op) (index : ℕ) → index < count → (it : Iterated)
      → Iterate index ≡ Ended it →
      ((earlier : List Action) → IsKept kept earlier → IsKept next (earlier ++ actions_at element it.accesses))
      → KeptUpTo count kept index → KeptUpTo count next (suc index)
  one_more count kept next index below it ended on so_far ran =
      rw (joined-take (Iterations ran) index, ran.at index index below (omega arith) it ended element)
      (on (joined (take index (Iterations ran))) (so_far ran))

  -- by its trace
  pub one_traced : (count : ℕ) (kept : Option Op) (index : ℕ) (trace : Trace) → index < count
      → IsTraceOf program call index words element trace → KeptUpTo count kept index
      → end_slot kept trace.slots.reduce trace.slots.other ≡ None →
      KeptUpTo count (operator_after kept trace.slots.reduce) (index + 1)
  one_traced count kept index trace below it so_far none =
      let parts = goes_on kept trace.slots.reduce trace.slots.other none in
      rw add-one (one_more count kept (operator_after kept trace.slots.reduce) index below it.iterated it.ended
      (λ earlier is.
      kept_more kept trace.slots.reduce earlier (actions_at element it.iterated.accesses) parts.0 is
      (rw parts.1 at it.slots.other)) so_far)

  -- iterations that go on with it
  many_quiet : (count : ℕ) (kept : Option Op) (many index : ℕ) → AreQuiet program call words element kept index
      (index + many) → index + many ≤ count → KeptUpTo count kept index → KeptUpTo count kept (index + many)
  many_quiet count kept zero index quiet within so_far =
      let here : index ≡ index + 0 = omega arith in
      subst (KeptUpTo count kept) here so_far
  many_quiet count kept (suc many) index quiet within so_far =
      let last = quiet (index + many) (omega arith) (omega arith) in
      let one : suc (index + many) ≡ index + suc many = omega arith in
      subst (KeptUpTo count kept) one (one_more count kept kept (index + many) (omega (arith, within)) last.0 last.1
      (λ earlier is. kept_quiet kept earlier (actions_at element last.0.accesses) is last.2)
      (many_quiet count kept many index (λ k low high. quiet k low (omega (arith, high))) (omega (arith, within))
      so_far))

  pub all_quiet : (count : ℕ) (kept : Option Op) (index past next : ℕ) → index ≤ next → next ≤ past → next ≤ count
      → AreQuiet program call words element kept index past → KeptUpTo count kept index → KeptUpTo count kept next
  all_quiet count kept index past next low high within quiet so_far =
      let many : index + (next - index) ≡ next = omega (arith, low) in
      subst (KeptUpTo count kept) many
      (many_quiet count kept (next - index) index (λ k from upto. quiet k from (omega (arith, upto, many, high)))
      (omega (arith, many, within)) so_far)

  module _ {count : ℕ} (ran : AllRan Iterate 0 count) where
    -- an access that is off, after actions that are kept
    ends : (kept : Option Op) (index slot : ℕ) → index < count → (before : List Access) (access : Access)
        → AccessesAt program call index words slot before access → access.element ≡ element
        → IsKept kept (joined (take index (Iterations ran)) ++ actions_at element before) → IsOff kept access.action →
        EndsReduction program call words element (Iterations ran) (record { index = index; slot = slot })
    ends kept index slot below before access made here is off = record {
      within = let long = ran.long element in omega (arith, below, long);
      before = before;
      access = access;
      made = made;
      here = here;
      up_to = kept_reduces kept (joined (take index (Iterations ran)) ++ actions_at element before) is;
      ended = kept_ends kept (joined (take index (Iterations ran)) ++ actions_at element before) access.action is off;
    }

    by_other : (kept : Option Op) (index slot : ℕ) → index < count → (first : Option FirstReduce) → Fits kept first
        → IsKept kept (joined (take index (Iterations ran)))
        → OtherAccessAt program call index words element first slot →
        EndsReduction program call words element (Iterations ran) (record { index = index; slot = slot })
    by_other kept index slot below first fits is o =
        ends (operator_after kept first) index slot below o.before o.access o.made o.here
        (kept_more kept first (joined (take index (Iterations ran))) (actions_at element o.before) fits is o.alike)
        (off_more kept first o.access.action fits o.other)

    by_first : (op : Op) (index : ℕ) → index < count → (first : FirstReduce) → is_same op first.op ≡ false
        → IsKept (Some op) (joined (take index (Iterations ran)))
        → FirstReduceAt program call index words element first →
        EndsReduction program call words element (Iterations ran) (record { index = index; slot = first.slot })
    by_first op index below first apart is r =
        ends (Some op) index first.slot below r.before r.access r.made r.here
        (rw (r.alone, append-nil (joined (take index (Iterations ran)))) is)
        (off_other op first.op r.access.action r.reducing apart)

    ended_here : (kept : Option Op) (index slot : ℕ) → index < count → (first : Option FirstReduce) (other : Option ℕ)
        (accesses : List Access) → IsKept kept (joined (take index (Iterations ran)))
        → ReduceIs program call index words element first
        → OtherIs program call index words element accesses first other → end_slot kept first other ≡ Some slot →
        EndsReduction program call words element (Iterations ran) (record { index = index; slot = slot })
    ended_here None index slot below first other accesses is reduce was found =
        by_other None index slot below first tt is (rw found at was)
    ended_here (Some op) index slot below None other accesses is reduce was found =
        by_other (Some op) index slot below None tt is (rw found at was)
    ended_here (Some op) index slot below (Some first) other accesses is reduce was found =
        elim (cases_Bool (is_same op first.op)) [
          | inl same ↦
              let last : other ≡ Some slot = rw same at found in
              by_other (Some op) index slot below (Some first) (same_op op first.op same) is (rw last at was)
          | inr apart ↦
              let both : Some first.slot ≡ Some slot = rw apart at found in
              let here : first.slot ≡ slot = cc in
              rw (← here) (by_first op index below first apart is reduce)
        ]

  module _ {count : ℕ} (counts : AreCounted program call words count) where
    -- it is in this iteration
    pub found : (kept : Option Op) (index slot : ℕ) (trace : Trace) → index < count
        → IsTraceOf program call index words element trace → KeptUpTo count kept index
        → end_slot kept trace.slots.reduce trace.slots.other ≡ Some slot →
        HasEnd program call words element (Some (record { index = index; slot = slot }))
    found kept index slot trace below it so_far is = record {
      runs = accesses_of_each (all_counted counts).its;
      counted = runs_counted counts;
      end = ended_here (all_counted counts) kept index slot below trace.slots.reduce trace.slots.other
          it.iterated.accesses (so_far (all_counted counts)) it.slots.reduce it.slots.other is;
    }

    -- or in none
    pub found_none : (kept : Option Op) (index : ℕ) → count ≤ index → KeptUpTo count kept index
        → HasEnd program call words element None
    found_none kept index past so_far =
        let long = (all_counted counts).long element in
        let all = take_all index (Iterations (all_counted counts)) (omega (arith, past, long)) in
        record {
          runs = accesses_of_each (all_counted counts).its;
          counted = runs_counted counts;
          end = kept_reduces kept (joined (Iterations (all_counted counts))) (rw all at (so_far (all_counted counts)));
        }
