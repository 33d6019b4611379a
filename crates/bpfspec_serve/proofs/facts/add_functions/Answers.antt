use Rattle.std.proofs.Common.{◌≡◌, append_assoc, arith}
use Rattle.bpfspec_serve.proofs.FactLaws.{one_more}
use Rattle.bpfspec_serve.proofs.facts.add_functions.Goals as goal

pub loop-number-preserved : goal.loop-number-preserved
loop-number-preserved c = rw (one_more, ← append_assoc, ← c.loop-number.invariant) c.in_ok-add_function.ensures

pub returns : goal.returns
returns c =
    let all : c.loop-number.number ≡ c.callbacks-last.result = grind arith in
    rw (← c.callbacks-last.ensures, one_more, ← append_assoc, ← all, ← c.loop-number.invariant)
    (rw (← all) at c.in_ok-add_function-2.ensures)
