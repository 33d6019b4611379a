use Rattle.std.proofs.Common.{arith}
use Rattle.row_facts.proofs.Congruence.{line-sum}
use Rattle.row_facts.proofs.lines.sum.Goals as goal

pub returns : goal.returns
returns c index x y first second = record {
  same = line-sum c.min-2.result c.args.first.bits c.args.second.bits c.args.first.scale c.args.first.offset
      c.args.second.scale c.args.second.offset index x y (omega arith) (omega arith) (omega arith) first.same
      second.same;
}
