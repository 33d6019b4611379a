use Rattle.std.proofs.Common.{zero-add, ◌∙◌, arith}
use Rattle.loop_core_model.specs.Planes.{set_bits}
use Rattle.lane_planes.proofs.Counts.{summed, few_bits}
use Rattle.lane_planes.proofs.counting.ones_in.Goals as goal

pub returns : goal.returns
returns g c =
    summed c.args.vector.now 0 (λ k. record { fits = c.requires.fit k }) (omega (arith, c.requires.lanes))
    ∙ zero-add (set_bits c.args.vector.now)

pub overflow_cast-result-2 : goal.overflow_cast-result-2
overflow_cast-result-2 g c =
    let words = c.args.vector.now in
    let few = few_bits words (λ k. record { fits = c.requires.fit k }) in
    rw (summed words 0 (λ k. record { fits = c.requires.fit k }) (omega (arith, c.requires.lanes)), zero-add)
    (record { fits = omega (arith, c.requires.lanes, few) })
