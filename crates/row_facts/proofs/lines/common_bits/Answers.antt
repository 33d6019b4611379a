use Rattle.std.{proofs.Common.{◌+◌, ◌-◌, ◌%◌, ◌^◌, arith}, specs.Int.{w64, trailing_zeros}}
use Rattle.value_range.proofs.Multiples.{trailing-multiple, trailing-most}
use Rattle.row_facts.proofs.Congruence.{same-difference}
use Rattle.row_facts.proofs.lines.common_bits.Goals as goal

pub returns-clause-few : goal.returns-clause-few
returns-clause-few c = trailing-most ((c.args.first + (2 ^ 64 - c.args.second)) % 2 ^ 64)

pub returns-clause-same : goal.returns-clause-same
returns-clause-same c =
    let n = (c.args.first + (2 ^ 64 - c.args.second)) % 2 ^ 64 in
    same-difference (trailing_zeros w64 n) c.args.first c.args.second (trailing-most n) (omega arith)
    (trailing-multiple n)
