use Rattle.std.proofs.Common.{length, ap, ◌∙◌, arith}
use Rattle.spec_run_loop.proofs.Clearing.{all_cleared}
use Rattle.spec_run_loop.proofs.identity.clear.Goals as goal

pub returns : goal.returns
returns c =
    let words = ap length c.words.ensures.words in
    let past = c.loop-e-test.false in
    let within = c.loop-e.auto.e-end in
    all_cleared c.args.op c.args.maps.now c.loop-e.maps c.loop-e.e (omega (arith, words, past, within))
    c.sizes-sizes.ensures.words c.loop-e.invariant.sizes c.loop-e.invariant.count
    (λ k below. c.loop-e.invariant.each k below ∙ c.identity_of-identity.ensures)
