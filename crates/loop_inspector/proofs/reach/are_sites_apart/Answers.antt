use Rattle.loop_inspector.proofs.SpanLaws.{spans-apart}
use Rattle.loop_inspector.proofs.reach.are_sites_apart.Goals as goal

pub returns-then-are_apart : goal.returns-then-are_apart
returns-then-are_apart c is =
    spans-apart c.args.at.now c.args.by.now c.args.n c.span_of.result c.span_of-2.result c.span_of.ensures
    c.span_of-2.ensures (c.are_apart.ensures is)
