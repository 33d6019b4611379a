use Rattle.std.proofs.Common.{◌≡◌, ◌∙◌, ◌+◌, ◌*◌, ◌%◌, ◌^◌, arith, refl, sym}
use Rattle.row_facts.proofs.Congruence.{coarse, same-sum, same-product}
use Rattle.row_facts.proofs.lines.joined.Goals as goal

pub returns-clause-first : goal.returns-clause-first
returns-clause-first c index x line = record {
  same = coarse c.min-3.result c.args.first.bits x (c.args.first.scale * index + c.args.first.offset) (omega arith)
      line.same;
}

pub returns-clause-second : goal.returns-clause-second
returns-clause-second c index x line =
    let i = c.min-3.result in
    let one = c.args.first in
    let two = c.args.second in
    let scale : two.scale % 2 ^ i ≡ one.scale % 2 ^ i =
    sym (coarse i c.common_bits-scale.result one.scale two.scale (omega arith) c.common_bits-scale.ensures.same) in
    let offset : two.offset % 2 ^ i ≡ one.offset % 2 ^ i =
    sym (coarse i c.common_bits-offset.result one.offset two.offset (omega arith) c.common_bits-offset.ensures.same) in
    record {
      same = coarse i two.bits x (two.scale * index + two.offset) (omega arith) line.same
          ∙ same-sum (2 ^ i) (two.scale * index) (one.scale * index) two.offset one.offset
          (same-product (2 ^ i) two.scale one.scale index index scale refl) offset;
    }
