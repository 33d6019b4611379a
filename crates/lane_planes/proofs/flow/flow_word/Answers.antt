use Rattle.std.proofs.Common.{arith}
use Rattle.lane_planes.{specs.Words.{stands_at}, proofs.BitLaws.{bits_joined}}
use Rattle.lane_planes.proofs.flow.flow_word.Goals as goal

pub loop-at-preserved : goal.loop-at-preserved
loop-at-preserved g c = record {
  within = c.loop-at-test.true;
  bits = bits_joined (stands_at c.args.first.now c.args.last.now) c.args.from c.loop-at.at g.row.N _ _
      (omega (arith, c.requires.few)) c.loop-at.invariant.bits c.flow_bits.ensures;
}

pub loop-at-2-preserved : goal.loop-at-2-preserved
loop-at-2-preserved g c = record {
  within = omega arith;
  bits = bits_joined (stands_at c.args.first.now c.args.last.now) c.args.from c.loop-at-2.at 1 _ _
      (omega (arith, c.requires.few)) c.loop-at-2.invariant.bits c.flow_bits-in-loop-at-2.ensures;
}
