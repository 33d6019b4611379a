use Rattle.std.proofs.Common.{refl}
use Rattle.row_facts.{specs.Facts.{IsOfMultiples}, proofs.Congruence.{line-quotient}}
use Rattle.row_facts.proofs.lines.quotient.Goals as goal

pub returns : goal.returns
returns c index x line =
    let are : IsOfMultiples c.args.line c.args.shift = c.if-not-is_of_multiples.ensures refl in
    record {
      same = line-quotient c.args.line.bits c.args.shift c.args.line.scale c.args.line.offset index x are.known
          are.scale
          are.offset line.same;
    }
