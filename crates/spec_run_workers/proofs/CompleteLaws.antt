-- The blocks of workers whose histories are legal are complete.
use Rattle.std.proofs.Common.{◌≡◌, ℕ, ◌+◌, ◌<◌, ◌≤◌, min, Bool, true, false, ◌||◌, IsTrue, inl, inr, List, []}
use Rattle.std.proofs.Common.{◌∷◌, Option, Some, None, map, length, refl, sym, ◌∙◌, ap, arith}
use Rattle.std.specs.Prelude.{nat_lt, ◌==◌, slice_get, slice_index, if◌then◌else◌}
use Rattle.std.{specs.{Option.{option_to_list}, List.{AllByRecursion, flat_map}}, proofs.lemmas.Grind.{flat_map-append}}
use Rattle.std.proofs.lemmas.Bool.{ltb-false, le-ltb, eq-eqb, and_from, cases_Bool, cases_lt}
use Rattle.std.proofs.lemmas.{Bool.Decides.{nat_tests}, List.{map-append}, Option.{slice_get-get_or}}
use Rattle.bpf_insn_types.specs.Program.{Program}
use Rattle.bpf_step_model.specs.{State.{LoopCall}, Run.{BoundedResult}, Iteration.{Iterated}}
use Rattle.loop_core_model.specs.{declared.loop_test.Test.{Test}, LeastBreak.{lesser}, Block.{break_from}}
use Rattle.loop_core_model.specs.{Gather.{gather_fault}, Intervals.{blocks_of, start_of}}
use Rattle.loop_core_model.specs.Gather.{Block, starts_late, least_of, is_bound, stands_in}
use Rattle.loop_core_model.proofs.{SplitLaws.{faultless, rising}, ScheduleLaws.{no_fault}}
use Rattle.loop_core_model.proofs.RunBlocks.{numbers, some_times, once_each, none_foreign, none_lacks}
use Rattle.loop_core_model.proofs.Steps as steps
use Rattle.loop_board.specs.{Sums.{times, once_below}, Seats.{histories}}
use Rattle.loop_board.specs.History.{History, times_drawn, times_posted, times_seen, some_found_none}
use Rattle.loop_board.proofs.{Sums.{times-append, times_first, times_more, once_below-below}, Histories.{single}}
use Rattle.loop_core_block.specs.{Blocks.{BlockOf}, Ran.{iterations_of, as_gathered, RecordsRun}}
use Rattle.spec_run_workers.specs.Worked.{runs_of, worked_numbers, breaks_of, StandsIn}
use Rattle.spec_run_workers.specs.CompleteLaw.{WorkerOf, seats_of, blocks_of_all, IsWorkerOf, WorkersComplete}
use Rattle.spec_run_workers.proofs.StillWorks.{all_append}

-- what the seats did
abbrev histories_of : List WorkerOf → List History
histories_of workers = histories (seats_of workers)

-- a number was run at most as often as it was drawn, and as often where its block starts past no answer
record Counts (bounds : List ℕ) (k ran drawn : ℕ) (seen : ℕ → ℕ) : Type 0 where
  most : ran ≤ drawn
  all : ((x : ℕ) → 0 < seen x → nat_lt x (start_of bounds k) ≡ false) → ran ≡ drawn

-- so it is of the draws and answers of one seat
runs_count : (k : ℕ) (bounds draws looks : List ℕ) → length looks ≡ length draws
    → Counts bounds k (times k (runs_of bounds draws looks)) (times k draws) (λ x. times x looks)
runs_count k bounds [] looks same = record { most = omega arith; all = λ _. refl }
runs_count k bounds (d ∷ draws) [] same = absurd (omega arith)
runs_count k bounds (d ∷ draws) (a ∷ looks) same =
    let rest = runs_count k bounds draws looks (omega arith) in
    let most = rest.most in
    elim (cases_Bool (nat_lt a (start_of bounds d))) [
      | inl late ↦ record {
        most = rw late (omega arith);
        all = λ soon.
            let more = rest.all (λ x there. soon x (omega arith)) in
            rw late (elim (cases_lt 0 (if k == d then 1 else 0)) [
              | inl is ↦ absurd (let here = soon a (times_first a looks) in
                  let there = rw (← single d k is) at late in cc)
              | inr other ↦ omega arith
            ]);
      }
      | inr soon_here ↦ record {
        most = rw soon_here (omega arith);
        all = λ soon. let more = rest.all (λ x there. soon x (omega arith)) in rw soon_here (omega arith);
      }
    ]

-- what holds of each part holds of all parts, one after the other
all_parts : {A B : Type 0} (P : B → Type 0) (Q : A → Type 0) (f : A → List B) → ((x : A) → Q x → AllByRecursion P (f x))
    → (xs : List A) → AllByRecursion Q xs → AllByRecursion P (flat_map f xs)
all_parts P Q f each [] all = tt
all_parts P Q f each (x ∷ xs) all = all_append P (f x) (flat_map f xs) (each x all.0) (all_parts P Q f each xs all.1)

-- a block that doesn't start past the lesser of two breaks starts past neither
soon_both : (s : ℕ) (a b : Option ℕ) → starts_late (lesser a b) s ≡ false
    → (starts_late a s ≡ false) × (starts_late b s ≡ false)
soon_both s None b soon = (refl, soon)
soon_both s (Some x) None soon = (soon, refl)
soon_both s (Some x) (Some y) soon =
    let low = ltb-false (min x y) s soon in (le-ltb x s (omega arith), le-ltb y s (omega arith))

soon_by : (s x : ℕ) (o : Option ℕ) → 0 < times x (option_to_list o) → starts_late o s ≡ false → nat_lt x s ≡ false
soon_by s x None there soon = absurd (omega arith)
soon_by s x (Some y) there soon = elim (times_more x y [] there) [
  | inl same ↦ rw same soon
  | inr none_left ↦ absurd (omega arith)
]

-- a bound that is there
bound_there : (bounds : List ℕ) (k x : ℕ) → k < length bounds → x ≡ slice_index bounds k
    → is_bound (slice_get bounds k) x ≡ true
bound_there bounds k x below same = rw (slice_get-get_or bounds k 0 below) (eq-eqb (slice_index bounds k) x (sym same))

-- both ways to count
same_bit : (k x : ℕ) → steps.bit (x == k) ≡ (if k == x then 1 else 0)
same_bit k x = grind (arith, nat_tests)

once_most : (x n : ℕ) → once_below x n ≤ 1
once_most x n = grind (arith, nat_tests)

module _ (test : Test) (program : Program) (call : LoopCall) (words : List ℕ) (bounds : List ℕ) where
  abbrev all_gathered : List BlockOf → List Block
  all_gathered blocks = map (as_gathered program call words) blocks

  abbrev Runs : List BlockOf → Type 0
  Runs blocks = AllByRecursion (RecordsRun test program call words) blocks

  abbrev AreWorkers : List WorkerOf → Type 0
  AreWorkers workers = AllByRecursion (IsWorkerOf test program call words bounds) workers

  -- the blocks' intervals are the split's
  all_stand : (blocks : List BlockOf) → AllByRecursion (StandsIn bounds) blocks
      → AllByRecursion (λ g. stands_in bounds g ≡ true) (all_gathered blocks)
  all_stand [] all = tt
  all_stand (b ∷ blocks) all =
      let within = all.0.within in (
        and_from _ _ (bound_there bounds b.number b.first (omega arith) all.0.first)
            (bound_there bounds (b.number + 1) b.past (omega arith) all.0.past),
        all_stand blocks all.1,
      )

  -- how often a number is in the blocks
  same_times : (k : ℕ) (blocks : List BlockOf) → steps.times k (numbers (all_gathered blocks))
      ≡ times k (worked_numbers blocks)
  same_times k [] = refl
  same_times k (b ∷ blocks) = let here = same_bit k b.number in let rest = same_times k blocks in omega arith

  -- blocks of the split have no fault, of which none appears twice, and each that isn't there starts past their break
  pub whole : (blocks : List BlockOf) → AllByRecursion (StandsIn bounds) blocks
      → ((k : ℕ) → times k (worked_numbers blocks) ≤ 1)
      → ((k : ℕ) → k < blocks_of bounds → starts_late (least_of (all_gathered blocks)) (start_of bounds k) ≡ false
      → 0 < times k (worked_numbers blocks)) → gather_fault bounds (all_gathered blocks) ≡ None
  whole blocks stand once there =
      no_fault bounds (all_gathered blocks)
      (none_lacks bounds (all_gathered blocks) (λ k below.
      elim (cases_Bool (starts_late (least_of (all_gathered blocks)) (start_of bounds k))) [
        | inl late ↦ inr late
        | inr soon ↦ inl (some_times k (all_gathered blocks) (let same = same_times k blocks in
            let some = there k below soon in omega arith))
      ]))
      (once_each (all_gathered blocks) (λ k. let same = same_times k blocks in let most = once k in omega arith))
      (none_foreign bounds (all_gathered blocks) (all_stand blocks stand))

  pub each_runs : (workers : List WorkerOf) → AreWorkers workers → Runs (blocks_of_all workers)
  each_runs workers are = all_parts (RecordsRun test program call words) (IsWorkerOf test program call words bounds)
      (λ (w : WorkerOf). w.blocks) (λ w is. is.ran) workers are

  -- a number was run as often as the seats drew it, or its block starts past an answer
  all_count : (k : ℕ) (workers : List WorkerOf) → AreWorkers workers
      → Counts bounds k (times k (worked_numbers (blocks_of_all workers))) (times_drawn k (histories_of workers))
      (λ x. times_seen x (histories_of workers))
  all_count k [] are = record { most = omega arith; all = λ _. refl }
  all_count k (w ∷ workers) are =
      let is = are.0.worked in
      let here = runs_count k bounds is.draws is.looks is.each_look in
      let rest = all_count k workers are.1 in
      let ran = ap (times k) (map-append (λ (b : BlockOf). b.number) w.blocks (blocks_of_all workers)) in
      let cut = times-append k (worked_numbers w.blocks) (worked_numbers (blocks_of_all workers)) in
      let numbers = ap (times k) is.numbers in
      let draws = ap (times k) is.did.drew in
      let here_most = here.most in
      let rest_most = rest.most in
      record {
        most = omega arith;
        all = λ soon.
            let first = here.all (λ x there. soon x (let saw = ap (times x) is.did.saw in omega arith)) in
            let others = rest.all (λ x there. soon x (omega arith)) in
            omega arith;
      }

  -- an index that some seat posted is a break of a block
  all_posted : (x : ℕ) (workers : List WorkerOf) → AreWorkers workers → times_posted x (histories_of workers)
      ≡ times x (breaks_of (blocks_of_all workers))
  all_posted x [] are = refl
  all_posted x (w ∷ workers) are =
      let here = ap (times x) are.0.worked.did.posted in
      let both = ap (times x) (flat_map-append (λ (b : BlockOf). option_to_list b.broke) w.blocks
      (blocks_of_all workers)) in
      let cut = times-append x (breaks_of w.blocks) (breaks_of (blocks_of_all workers)) in
      let rest = all_posted x workers are.1 in
      omega arith

  break_is : (b : BlockOf) → RecordsRun test program call words b
      → break_from b.first (as_gathered program call words b).ran ≡ b.broke
  break_is b is = ap (λ (e : BoundedResult (List Iterated)). break_from b.first (iterations_of e)) is.ended
      ∙ sym is.broke

  -- a block that doesn't start past the least break starts past no break
  posted_soon : (s x : ℕ) (blocks : List BlockOf) → Runs blocks → 0 < times x (breaks_of blocks)
      → starts_late (least_of (all_gathered blocks)) s ≡ false → nat_lt x s ≡ false
  posted_soon s x [] runs there soon = absurd (omega arith)
  posted_soon s x (b ∷ blocks) runs there soon =
      let parts = soon_both s (break_from b.first (as_gathered program call words b).ran)
      (least_of (all_gathered blocks)) soon in
      let cut = times-append x (option_to_list b.broke) (breaks_of blocks) in
      elim (cases_lt 0 (times x (option_to_list b.broke))) [
        | inl here ↦ soon_by s x b.broke here (rw (break_is b runs.0) at parts.0)
        | inr none_here ↦ posted_soon s x blocks runs.1 (omega arith) parts.1
      ]

  some_drained : (workers : List WorkerOf) → 0 < length workers → AreWorkers workers
      → IsTrue (some_found_none (histories_of workers))
  some_drained [] some are = absurd (omega arith)
  some_drained (w ∷ workers) some are = ap (λ (b : Bool). b || some_found_none (histories_of workers))
      are.0.worked.drained

pub workers_complete : WorkersComplete
workers_complete test program call words bounds claimed workers fine few some legal are =
    whole test program call words bounds (blocks_of_all workers)
    (all_parts (StandsIn bounds) (IsWorkerOf test program call words bounds) (λ (w : WorkerOf). w.blocks)
    (λ w is. is.worked.intervals) workers are)
    (λ k. let count = all_count test program call words bounds k workers are in let most = count.most in
    let once = legal.each_once k in let one = once_most k claimed in omega arith)
    (λ k below late. let count = all_count test program call words bounds k workers are in
    let all = count.all (soon k below late) in let once = legal.each_once k in
    let claimed_all = legal.all_blocks (some_drained test program call words bounds workers some are) in
    let one = once_below-below k claimed (omega arith) in omega arith)
  where
    soon : (k : ℕ) → k < blocks_of bounds
        → starts_late (least_of (map (as_gathered program call words) (blocks_of_all workers))) (start_of bounds k)
        ≡ false
        → (x : ℕ) → 0 < times_seen x (histories_of workers) → nat_lt x (start_of bounds k) ≡ false
    soon k below late x there = elim (legal.looks x there) [
      | inl none_posted ↦
          let sound = faultless call.n bounds fine in
          let several = sound.several in
          let small = rising 0 bounds sound.rises k (blocks_of bounds) (omega arith) (omega arith) in
          let last = sound.last in
          le-ltb x (start_of bounds k) (omega arith)
      | inr posted ↦
          posted_soon test program call words bounds (start_of bounds k) x (blocks_of_all workers)
          (each_runs test program call words bounds workers are)
          (let same = all_posted test program call words bounds x workers are in omega arith) late
    ]
