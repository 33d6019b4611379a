use Rattle.std.proofs.Common.{◌≡◌, ◌≢◌, ◌≤◌, ◌+◌, ◌*◌, length, refl, arith}
use Rattle.loop_core_model.specs.Planes.{bit_of}
use Rattle.spec_run_explain.proofs.ListLaws.{enough, listed_more, few_more}
use Rattle.spec_run_explain.proofs.listing.least_elements.Goals as goal

pub returns-then-len-most : goal.returns-then-len-most
returns-then-len-most c =
    let is = c.if-len-most.true in
    let count = c.len.ensures in
    let long : length c.loop-e.elements.items ≡ c.args.most = omega (arith, is, count) in
    let more = c.loop-e-test.true in
    let within : c.loop-e.e ≤ 64 * length c.args.plane.now = omega (arith, more) in
    enough (bit_of c.args.plane.now) c.loop-e.e (64 * length c.args.plane.now) c.args.most c.loop-e.elements.items
    c.loop-e.invariant.listed long within

pub loop-e-preserved : goal.loop-e-preserved
loop-e-preserved c =
    let other = c.if-len-most.false in
    let count = c.len.ensures in
    let apart : length c.loop-e.elements.items ≢ c.args.most = omega (arith, other, count) in
    record {
      listed = listed_more (bit_of c.args.plane.now) c.loop-e.e (c.loop-e.e + 1) c.loop-e.elements.items
          c.add_if_set.new.elements.items refl c.loop-e.invariant.listed c.in_ok-add_if_set.ensures;
      few = few_more (bit_of c.args.plane.now c.loop-e.e) c.loop-e.e c.args.most c.loop-e.elements.items
          c.add_if_set.new.elements.items c.in_ok-add_if_set.ensures c.loop-e.invariant.few apart;
    }
