-- The shares of a round.
use Rattle.std.proofs.Common.{◌≡◌, ℕ, ◌+◌, ◌-◌, ◌<◌, ◌≤◌, List, length, Some, refl}
use Rattle.std.{proofs.Common.{ap, ◌∙◌, arith}, specs.{Prelude.{slice_index_or}}}
use Rattle.std.proofs.{Math.Nat.{mul_comm}, lemmas.Grind.{div_ceil_times}}
use Rattle.array_maps.specs.MapList.{MapList}
use Rattle.loop_core_sequential.specs.{Loops.{RanLoopInOrder}, Rests.{RanOn, RanTo}}
use Rattle.loop_core_sequential.proofs.InOrder.{ran_both, broke_before, ran_all}
use Rattle.spec_run_loop.specs.declared.{round.Round.{Round}, partial_reduction.PartialReduction.{PartialReduction}}
use Rattle.spec_run_loop.specs.{SumLoops.{SumLoopOf}, Rounds.{share_start, share_size}, Sums.{IsSumOf, AreSumsOf}}

-- a share begins at most where the next one does
pub start_before : (round : Round) (share : ℕ) → share_start round share ≤ share_start round (share + 1)
start_before round share = omega arith

-- after the last one the round ends
ends : (round : Round) → share_start round round.shares ≡ round.to
ends round =
    let all = (div_ceil_times (round.to - round.from) round.shares round.some).0 in
    let turned = mul_comm (share_size round) round.shares in
    omega (arith, all, turned)

-- sums of all shares are sums of the round
pub sums_of_round : (l : SumLoopOf) (round : Round) (sums : List PartialReduction) → round.to ≤ l.call.n
    → length sums ≡ round.shares
    → ((share : ℕ) (s : PartialReduction) → share < length sums → IsSumOf l (share_start round share)
    (share_start round (share + 1)) (slice_index_or sums share s)) → AreSumsOf l round.from round.to sums
sums_of_round l round sums within count each = record {
  start = share_start round;
  first = omega arith;
  last = ap (share_start round) count ∙ ends round;
  before = λ share below. omega arith;
  within = within;
  each = each;
}

-- rounds up to one in which a loop broke off are the loop in order
pub broke_in_round : (l : SumLoopOf) (from to n : ℕ) (old now new : MapList) (answer : ℕ) → n ≡ l.call.n → to ≤ n
    → RanOn l.program l.call 0 from old now → RanTo l.program l.call from to now new (Some answer)
    → RanLoopInOrder l.program l.call old new answer
broke_in_round l from to n old now new answer n_is within went broke =
    ran_all l.program l.call n old new (Some answer) answer n_is
    (broke_before l.program l.call 0 to n old new answer within
    (ran_both l.program l.call 0 from to old now new (Some answer) went broke)) refl
