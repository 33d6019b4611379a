use Rattle.std.{proofs.Common.{ℕ, ◌+◌, ◌<◌, length, ◌∙◌, subst, arith}, specs.Prelude.{slice_index_or}}
use Rattle.spec_run_loop.specs.{declared.partial_reduction.PartialReduction.{PartialReduction}, Rounds.{share_start}}
use Rattle.spec_run_loop.{specs.Sums.{IsSumOf}, proofs.RoundLaws.{sums_of_round}}
use Rattle.spec_run_loop.proofs.summing.run_shares.Goals as goal

pub returns : goal.returns
returns g c =
    let of = c.args.of.now in
    let round = c.args.round.now in
    let ran = c.for_each_mut.new.s in
    let kept = c.for_each_mut.auto.s in
    let count = c.requires.count in
    let each : (share : ℕ) (s : PartialReduction) → share < length ran → IsSumOf of (share_start round share)
    (share_start round (share + 1)) (slice_index_or ran share s) = λ share s below.
    (let done = (c.for_each_mut.ensures share s (omega (arith, kept, below))).1 in
    subst (IsSumOf of (share_start round share) (share_start round (share + 1))) done.left done.call) in
    record {
      sums = sums_of_round of round ran c.requires.within (kept ∙ count) each;
      fit = λ share s below. (each share s below).fits;
    }
