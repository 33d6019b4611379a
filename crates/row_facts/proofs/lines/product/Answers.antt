use Rattle.std.{proofs.Common.{arith}, specs.Int.{w64, trailing_zeros}}
use Rattle.value_range.proofs.Multiples.{trailing-multiple}
use Rattle.row_facts.proofs.Congruence.{line-product}
use Rattle.row_facts.proofs.lines.product.Goals as goal

pub returns : goal.returns
returns c index x line = record {
  same = line-product c.min-2.result c.args.line.bits (trailing_zeros w64 c.args.factor) c.args.factor c.args.line.scale
      c.args.line.offset index x (omega arith) (omega arith) (trailing-multiple c.args.factor) line.same;
}
