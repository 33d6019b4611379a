-- What pays.
use Rattle.std.proofs.Common.{◌≡◌, ℕ, suc, ◌<◌, ◌≤◌, true, false, List, [], ◌∷◌, length, get_or, refl}
use Rattle.std.proofs.{Common.{inl, inr, sym, ◌∙◌, arith, lt-ltb, le-ltb, ◌+◌, ◌*◌, ◌/◌, ◌≢◌}, lemmas.Nat.{mul-le}}
use Rattle.std.specs.{Prelude.{◌==◌, min}, List.{list_any}}
use Rattle.std.proofs.lemmas.Bool.{eqb-true, cases_Bool, Decides.{nat_tests}}
use Rattle.bpf_insn_types.specs.Program.{Program, callback_starts}
use Rattle.bpf_verify_model.specs.Count.{count_of, function_start}
use Rattle.bpf_step_model.specs.SoundMachine.{IsStart}
use Rattle.bpf_verify_sound.specs.Soundness.{most_from}
use Rattle.loop_core_block.proofs.MostLaws.{count_is}
use Rattle.loop_core_model.specs.Split.{even_bounds}
use Rattle.loop_core_split.specs.declared.{plan.Plan.{Plan}, strategy.BlocksReason.{BlocksReason}}
use Rattle.spec_run_loop.specs.declared.strategy.{BlockPlan.{BlockPlan}, Executor.TheVariants.{Caller, Workers}}
use Rattle.spec_run_loop.specs.{Jobs.{JobOf}, Costs.{useful_blocks}, StrategyPlans.{profitable_blocks}}
use Rattle.spec_run_loop.specs.Costs.{share, least_shares, cost_of_elements, shares_of, useful_workers, work_by_blocks}

-- a slot among some is one of them
record IsAt (starts : List ℕ) (slot : ℕ) : Type 0 where
  at : ℕ
  inside : at < length starts
  is : get_or starts at 0 ≡ slot

among : (starts : List ℕ) (slot : ℕ) → list_any (λ start. start == slot) starts ≡ true → IsAt starts slot
among [] slot there = absurd cc
among (start ∷ starts) slot there = elim (cases_Bool (start == slot)) [
  | inl here ↦ record { at = 0; inside = omega arith; is = eqb-true start slot here }
  | inr other ↦
      let rest : IsAt starts slot = among starts slot (rw other at there) in
      record { at = suc rest.at; inside = omega (arith, rest.inside); is = rest.is }
]

-- the count of the callback that starts at a slot is of its longest path
pub most_is : (program : Program) (slot most : ℕ) → IsStart program slot
    → ((function : ℕ) → 0 < function → function ≤ length (callback_starts program.insns)
    → function_start program.insns function ≡ slot → most ≡ count_of program.insns function)
    → most ≡ most_from program slot
most_is program slot most start count =
    let it : IsAt (callback_starts program.insns) slot = among (callback_starts program.insns) slot start in
    let low : it.at < length (callback_starts program.insns) = it.inside in
    count (suc it.at) (omega arith) (omega (arith, low)) it.is ∙ sym (count_is program (suc it.at) slot it.is)

-- iterations of at most 4,096 instructions
pub most_work : (n most : ℕ) → n ≤ 4294967295 → most ≤ 4096 → n * most ≤ 17592186040320
most_work n most few low =
    let product : n * most ≤ 4294967295 * 4096 = mul-le n most 4294967295 4096 few low in
    omega (arith, product)

few_shared : (workers shares blocks : ℕ) → workers ≤ 16
    → min (min workers (min shares 16)) blocks ≡ min (min workers shares) blocks
few_shared workers shares blocks few = omega arith

-- few shares keep one worker busy
pub keeps_one : (work elements cost : ℕ) (plan : Plan) → cost ≡ cost_of_elements elements
    → work / (share + cost) < least_shares → 1 ≡ useful_workers work elements plan
keeps_one work elements cost plan is few =
    rw (lt-ltb (shares_of work elements) least_shares (rw is at few)) refl

-- more keep busy those of the plan, which has at most 16 workers
pub keeps_some : (work elements cost : ℕ) (plan : Plan) (shared busy : ℕ) → plan.workers ≤ 16
    → cost ≡ cost_of_elements elements → least_shares ≤ work / (share + cost)
    → shared ≡ min (work / (share + cost)) 16 → busy ≡ min (min plan.workers shared) plan.blocks
    → busy ≡ useful_workers work elements plan
keeps_some work elements cost plan shared busy few is enough up are =
    rw (le-ltb (shares_of work elements) least_shares (rw is at enough))
    (rw (are, up, is) (few_shared plan.workers (shares_of work elements) plan.blocks few))

-- the blocks that pay for one worker, and for several
pub pays_alone : (job : JobOf) (elements workers : ℕ) (why : BlocksReason) (blocks : BlockPlan) → workers ≡ 1
    → blocks ≡ record { split = even_bounds job.call.n 1; executor = Caller; why = why }
    → blocks ≡ profitable_blocks job elements workers why
pays_alone job elements workers why blocks alone is =
    let one : (workers == 1) ≡ true = grind (arith, nat_tests) in rw (is, one)

pub pays_together : (job : JobOf) (elements workers : ℕ) (why : BlocksReason) (blocks : BlockPlan) → workers ≢ 1
    → blocks ≡ record {
      split = even_bounds job.call.n (useful_blocks (work_by_blocks job) elements job.plan.blocks workers);
      executor = Workers workers;
      why = why;
    } → blocks ≡ profitable_blocks job elements workers why
pays_together job elements workers why blocks several is =
    let one : (workers == 1) ≡ false = grind (arith, nat_tests) in rw (is, one)
