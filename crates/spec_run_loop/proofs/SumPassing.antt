-- A loop that adds up conflicts at no element.
use Rattle.std.proofs.Common.{◌≡◌, ℕ, zero, suc, ◌+◌, ◌<◌, ◌≤◌, Bool, true, false, ◌==◌, List, []}
use Rattle.std.{proofs.Common.{◌∷◌, length, refl, ap, ◌∙◌, arith}}
use Rattle.std.{specs.List.{AllByRecursion, list_all}, proofs.lemmas.List.Folds.{list_all-append}}
use Rattle.array_maps.specs.declared.access.Op.{Op}
use Rattle.array_maps.specs.Accesses.{Access, actions_at}
use Rattle.bpf_step_model.specs.{Run.{BoundedResult, Ended, mapped}, Iteration.{Iterated, iteration}}
use Rattle.bpf_verify_sound.specs.Soundness.{AreMapWords, callback_count}
use Rattle.bpf_step.specs.Iterations.{EachIterationEnds}
use Rattle.loop_core_model.specs.{declared.loop_test.Test.{Test}, Report.{judged, verdict}}
use Rattle.loop_core_model.specs.{Actions.{reduces_by, joined}, Scan.{scan}}
use Rattle.loop_core_model.specs.Conflict.{conflicts, at_element, conflicting}
use Rattle.loop_core_model.{specs.LeastBreak.{accesses_of_each}, proofs.PlaneLaws.{filter-none}}
use Rattle.{loop_core_model.proofs.ScanLaws.{counted_are_scanned}, loop_inspector.proofs.Conflicts.{by_actions}}
use Rattle.spec_run_loop.specs.{SumLaw.{AllReduce}, SumLoops.{SumLoopOf, IsSumLoop, AlwaysPasses}}
use Rattle.spec_run_loop.proofs.{Reduces.{and_both, reduces_at}, Ranges.{ends_known}}

-- at an element all iterations' actions are reduces
joined_reduce : (op : Op) (e : ℕ) (runs : List (List Access)) → AllByRecursion (AllReduce op) runs
    → list_all (reduces_by op) (joined (at_element e runs)) ≡ true
joined_reduce op e [] all = refl
joined_reduce op e (run ∷ runs) all =
    list_all-append (reduces_by op) (actions_at e run) (joined (at_element e runs))
    ∙ and_both (list_all (reduces_by op) (actions_at e run)) (list_all (reduces_by op) (joined (at_element e runs)))
    (reduces_at op run all.0 e) (joined_reduce op e runs all.1)

none_conflict : (test : Test) (op : Op) (runs : List (List Access)) (elements : ℕ) → AllByRecursion (AllReduce op) runs
    → conflicting test runs elements ≡ []
none_conflict test op runs elements all =
    filter-none (λ e. conflicts test (at_element e runs)) 0 elements
    (λ e low high. by_actions test op (at_element e runs) (joined (at_element e runs)) refl
    (joined_reduce op e runs all))

module _ (l : SumLoopOf) (is : IsSumLoop l) (each : EachIterationEnds l.program) (words : List ℕ)
    (fit : AreMapWords l.program words) where
  -- the iteration of an index
  abbrev pub at_index : ℕ → BoundedResult Iterated
  at_index index = iteration l.program 4096 l.call index words

  -- iterations that were scanned, each of which reduces
  pub record Scanned (left index : ℕ) : Type 0 where
    pub ran : List Iterated
    pub told : scan at_index left index ≡ Ended ran
    pub reduce : AllByRecursion (AllReduce l.op) (accesses_of_each ran)

  one_more : (left index : ℕ) (it : Iterated) → at_index index ≡ Ended it → AllReduce l.op it.accesses
      → (b : Bool) → (it.ret == 1) ≡ b → Scanned left (index + 1) → Scanned (suc left) index
  one_more left index it told reduces true test rest = record {
    ran = it ∷ [];
    told = rw (told, test);
    reduce = (reduces, tt);
  }
  one_more left index it told reduces false test rest = record {
    ran = it ∷ rest.ran;
    told = rw (told, test, rest.told);
    reduce = (reduces, rest.reduce);
  }

  scanned : (left index : ℕ) → index + left ≤ l.call.n → Scanned left index
  scanned zero index within = record { ran = []; told = refl; reduce = tt }
  scanned (suc left) index within =
      let below : index < l.call.n = omega (arith, within) in
      let here = ends_known l.program (callback_count l.program l.call) (at_index index)
      (each l.call is.known index below words fit) in
      one_more left index here.0 here.1 (is.reduces index below words fit here.0 here.1) (here.0.ret == 1) refl
      (scanned left (index + 1) (omega (arith, within)))

  passes_on : (test : Test) → verdict test l.program 4096 l.call words
      ≡ Ended (judged [])
  passes_on test =
      let all = scanned l.call.n 0 (omega arith) in
      ap (mapped (λ (runs : List (List Access)). judged (conflicting test runs (length words))))
      (ap (mapped accesses_of_each) (counted_are_scanned l.program 4096 l.call words ∙ all.told))
      ∙ ap (λ (es : List ℕ). Ended (judged es)) (none_conflict test l.op (accesses_of_each all.ran) (length words)
      all.reduce)

pub passes : (l : SumLoopOf) → IsSumLoop l → EachIterationEnds l.program → AlwaysPasses l
passes l is each test words fit = passes_on l is each words fit test
