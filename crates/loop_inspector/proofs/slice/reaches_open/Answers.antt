use Rattle.std.proofs.{Common.{get_or, take}, lemmas.List.{take_more, take_all}}
use Rattle.loop_inspector.proofs.SpanLaws.{avoids-more}
use Rattle.loop_inspector.proofs.slice.reaches_open.Goals as goal

pub loop-span-preserved : goal.loop-span-preserved
loop-span-preserved c =
    let spans = c.args.spans.now in
    let k = c.loop-span.span-index in
    rw (take_more spans k (record { first = 0; last = 0 }) c.loop-span-test.true)
    (avoids-more (take k spans) (get_or spans k (record { first = 0; last = 0 })) c.span_of.result c.args.site.now
    c.span_of.ensures (c.are_apart.ensures c.if-not-are_apart.false) c.loop-span.invariant)

pub returns : goal.returns
returns c is = rw (take_all c.loop-span.span-index c.args.spans.now c.loop-span-test.false) at c.loop-span.invariant
