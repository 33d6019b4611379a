-- Iterations that all end, and what each did at an element.
use Rattle.std.proofs.Common.{◌≡◌, ℕ, zero, suc, ◌+◌, ◌≤◌, ◌<◌, List, [], ◌∷◌, length, map, refl, sym, ap, ◌∙◌, arith}
use Rattle.std.specs.{Prelude.{slice_index_or}, List.{range_with_len}}
use Rattle.array_maps.specs.Accesses.{actions_at}
use Rattle.bpf_insn_types.specs.Program.{Program}
use Rattle.bpf_step_model.specs.{Run.{BoundedResult, Ended, followed, mapped}, Iteration.{Iterated, iteration}}
use Rattle.bpf_step_model.specs.State.{LoopCall}
use Rattle.loop_core_model.specs.{Conflict.{at_element}, LeastBreak.{in_front_of, all_ended, accesses_of_each}}
use Rattle.loop_core_model.{specs.LeastBreak.{is_break, counted_runs}, proofs.Least.{counts_to}}
use Rattle.loop_core_witness.specs.Breaks.{AreCounted}

-- a number of iterations from a first index on ended
pub record AllRan (iterate : ℕ → BoundedResult Iterated) (first count : ℕ) : Type 0 where
  pub its : List Iterated
  pub ended : all_ended (map iterate (range_with_len first count)) ≡ Ended its
  pub long : (e : ℕ) → length (at_element e (accesses_of_each its)) ≡ count
  pub at : (k index : ℕ) → k < count → index ≡ first + k → (it : Iterated) → iterate index ≡ Ended it → (e : ℕ) →
      slice_index_or (at_element e (accesses_of_each its)) k [] ≡ actions_at e it.accesses

-- one more in front
one_more : (iterate : ℕ → BoundedResult Iterated) (first count : ℕ) (here : Iterated) → iterate first ≡ Ended here
    → AllRan iterate (first + 1) count →
    AllRan iterate first (suc count)
one_more iterate first count here is rest = record {
  its = here ∷ rest.its;
  ended = ap (followed (in_front_of (all_ended (map iterate (range_with_len (first + 1) count))))) is
      ∙ ap (λ (others : BoundedResult (List Iterated)). in_front_of others here) rest.ended;
  long = λ e. ap suc (rest.long e);
  at = at;
}
  where
    at : (k index : ℕ) → k < suc count → index ≡ first + k → (it : Iterated) → iterate index ≡ Ended it → (e : ℕ) →
        slice_index_or (at_element e (accesses_of_each (here ∷ rest.its))) k [] ≡ actions_at e it.accesses
    at zero index below at_first it ends e =
        let same : index ≡ first = omega (arith, at_first) in
        let both : Ended here ≡ Ended it = sym is ∙ ap iterate (sym same) ∙ ends in
        let one : here ≡ it = cc in
        ap (λ (i : Iterated). actions_at e i.accesses) one
    at (suc k) index below at_later it ends e =
        let low : k < count = omega (arith, below) in
        let next : index ≡ first + 1 + k = omega (arith, at_later) in
        rest.at k index low next it ends e

pub all_ran : (iterate : ℕ → BoundedResult Iterated) (first count : ℕ) →
    ((index : ℕ) → first ≤ index → index < first + count → (it : Iterated) × (iterate index ≡ Ended it))
    → AllRan iterate first count
all_ran iterate first zero each = record {
  its = [];
  ended = refl;
  long = λ e. refl;
  at = λ k index below is it ends e. absurd (omega (arith, below));
}
all_ran iterate first (suc count) each =
    let here = each first (omega arith) (omega arith) in
    one_more iterate first count here.0 here.1
    (all_ran iterate (first + 1) count (λ index low high. each index (omega (arith, low)) (omega (arith, high))))

-- the counted iterations of a loop call
module _ {program : Program} {call : LoopCall} {words : List ℕ} {count : ℕ} (counts : AreCounted program call words
    count) where
  pub all_counted : AllRan (λ index. iteration program 4096 call index words) 0 count
  all_counted = all_ran (λ index. iteration program 4096 call index words) 0 count
      (λ index low high. counts.ends index (omega arith))

  pub runs_counted : counted_runs program 4096 call words ≡ Ended (accesses_of_each all_counted.its)
  runs_counted = rw (← counts.all) (ap (mapped accesses_of_each) all_counted.ended)

  pub within : count ≤ call.n
  within =
      let few = (counts_to (λ index. is_break (iteration program 4096 call index words)) call.n).within in
      let all = counts.all in
      omega (arith, few, all)
