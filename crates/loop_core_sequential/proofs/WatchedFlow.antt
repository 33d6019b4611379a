-- A loop of which no iteration reads what an earlier one writes passes by the flow test.
use Rattle.std.proofs.Common.{◌≡◌, ℕ, zero, suc, ◌+◌, ◌<◌, ◌≤◌, true, false, inl, inr, List, [], ◌∷◌, map, length}
use Rattle.std.proofs.Common.{is_none, refl, arith}
use Rattle.std.{specs.List.{list_any, range_with_len}, proofs.{Math.Bool.{and-false}, lemmas.Bool.{cases_Bool}}}
use Rattle.array_maps.specs.Accesses.{Access, actions_at}
use Rattle.bpf_insn_types.specs.Program.{Program}
use Rattle.bpf_step_model.specs.{State.{LoopCall}, Run.{BoundedResult, Ended}, Iteration.{Iterated, iteration}}
use Rattle.loop_core_model.specs.declared.{loop_test.Test.TheVariants.{Flow}, verdict.Verdict.TheVariants.{Parallel}}
use Rattle.loop_core_model.specs.{Actions.{writes, exposed, joined, only_operator}, Report.{verdict}}
use Rattle.loop_core_model.specs.{Conflict.{fails_flow, conflicts, at_element, conflicting}, Scan.{scan}}
use Rattle.loop_core_model.{specs.LeastBreak.{accesses_of_each}, proofs.PlaneLaws.{filter-none}}
use Rattle.loop_core_model.{proofs.ScanLaws.{counted_are_scanned}, specs.LoopByEffects.{EndsInZero}}
use Rattle.loop_core_sequential.specs.Watched.{accesses_at, NoneReadsWritten}

-- iterations none of which has an exposed read
none_exposed : (made : ℕ → List Access) (e count index : ℕ)
    → ((i : ℕ) → index ≤ i → i < index + count → exposed (actions_at e (made i)) ≡ false)
    → list_any exposed (at_element e (map made (range_with_len index count))) ≡ false
none_exposed made e zero index none = refl
none_exposed made e (suc count) index none =
    rw (none index (omega arith) (omega arith))
    (none_exposed made e count (index + 1) (λ i low high. none i (omega arith) (omega arith)))

-- where none reads what an earlier one writes, none fails the flow test
flow_free : (made : ℕ → List Access) (e count index : ℕ)
    → ((earlier later : ℕ) → earlier < later → later < index + count → writes (actions_at e (made earlier)) ≡ true
    → exposed (actions_at e (made later)) ≡ false)
    → fails_flow (at_element e (map made (range_with_len index count))) ≡ false
flow_free made e zero index none = refl
flow_free made e (suc count) index none =
    let rest = flow_free made e count (index + 1)
    (λ earlier later order below. none earlier later order (omega arith)) in
    elim (cases_Bool (writes (actions_at e (made index)))) [
      | inl wrote ↦ rw (
        wrote,
        none_exposed made e count (index + 1)
            (λ i low high. none index i (omega arith) (omega arith) wrote),
      ) rest
      | inr other ↦ rw other rest
    ]

module _ (program : Program) (call : LoopCall) (words : List ℕ) where
  -- the iteration of an index
  abbrev at_index : ℕ → BoundedResult Iterated
  at_index index = iteration program 4096 call index words

  -- iterations that were scanned
  pub record Scanned (left index count : ℕ) : Type 0 where
    pub ran : List Iterated
    pub told : scan at_index left index ≡ Ended ran
    pub runs : accesses_of_each ran ≡ map (accesses_at program call words) (range_with_len index count)

  -- none, or one that breaks, is the last
  pub none_scanned : (index : ℕ) → Scanned 0 index 0
  none_scanned index = record { ran = []; told = refl; runs = refl }

  pub last_scanned : (left index : ℕ) (it : Iterated) → at_index index ≡ Ended it → it.ret ≡ 1
      → Scanned (suc left) index 1
  last_scanned left index it told one = record { ran = it ∷ []; told = rw (told, one) refl; runs = rw told refl }

  -- those that go on are in front of the others
  scanned_all : (n index left more count : ℕ)
      → ((i : ℕ) → i < index → EndsInZero program 4096 call i words (accesses_at program call words i))
      → index + left ≡ n → index + more ≡ count → Scanned left index more → Scanned n 0 count
  scanned_all n zero left more count each all counts rest =
      let same : n ≡ left = omega arith in
      let so_many : count ≡ more = omega arith in
      rw (same, so_many) rest
  scanned_all n (suc index) left more count each all counts rest =
      let there : suc index ≡ index + 1 = omega arith in
      let on = each index (omega arith) in
      let later = rw there at rest in
      scanned_all n index (suc left) (suc more) count (λ i below. each i (omega arith)) (omega arith) (omega arith)
      (record {
        ran = on.iterated ∷ later.ran;
        told = rw (on.ended, on.returned, later.told) refl;
        runs = rw (on.made, later.runs) refl;
      })

  -- so the loop passes
  pub passes_flow : (index left more count : ℕ)
      → ((i : ℕ) → i < index → EndsInZero program 4096 call i words (accesses_at program call words i))
      → index + left ≡ call.n → index + more ≡ count → Scanned left index more
      → NoneReadsWritten program call words count → verdict Flow program 4096 call words ≡ Ended Parallel
  passes_flow index left more count each all counts rest none =
      let scanned = scanned_all call.n index left more count each all counts rest in
      let runs : List (List Access) = map (accesses_at program call words) (range_with_len 0 count) in
      let none_conflict : conflicting Flow runs (length words) ≡ [] =
      filter-none (λ e. conflicts Flow (at_element e runs)) 0 (length words) (λ e low high.
      rw (flow_free (accesses_at program call words) e count 0 (λ earlier later order below wrote.
      none e earlier later (omega arith) order (omega arith) wrote))
      (and-false (is_none (only_operator (joined (at_element e runs)))))) in
      rw (counted_are_scanned program 4096 call words, scanned.told, scanned.runs, none_conflict) refl
