use Rattle.value_range.specs.AluRows.{meant}
use Rattle.row_facts.proofs.arithmetic.computed_of_one.Goals as goal

pub returns : goal.returns
returns c index x value =
    let n = meant c.args.operation c.args.width x x in
    c.within.ensures index n (c.alu.ensures.contains x x value.in_range value.in_range) (c.anything.ensures index n)
