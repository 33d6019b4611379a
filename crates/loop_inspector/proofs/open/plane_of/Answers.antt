use Rattle.std.proofs.Common.{◌≡◌, ◌∙◌, length, take, drop, get_or, sym, arith}
use Rattle.std.proofs.lemmas.List.{take_at, take_more}
use Rattle.loop_inspector.specs.{declared.reach.Span.{Span}, Open.{SetsSpan}}
use Rattle.loop_inspector.proofs.SpanLaws.{plane-more}
use Rattle.loop_inspector.proofs.open.plane_of.Goals as goal

pub loop-span-preserved : goal.loop-span-preserved
loop-span-preserved c =
    let spans = c.args.spans.now in
    let k = c.loop-span.span-index in
    let old = c.loop-span.plane.items in
    let new = c.set_span.new.plane in
    let span : Span = get_or spans k (record { first = 0; last = 0 }) in
    let sets : SetsSpan span c.args.elements old new = rw c.as_mut_slice.ensures.value at c.set_span.ensures in
    let count : length new ≡ c.loop-span.plane.len = sets.count ∙ sym c.loop-span.plane.ok.0 in
    rw (
      take_at new (drop (length new) old) c.loop-span.plane.len count,
      take_more spans k (record { first = 0; last = 0 }) c.loop-span-test.true,
    )
    (record {
      room = omega (arith, c.loop-span.invariant.room, sets.count);
      plane = plane-more (take k spans) span c.args.elements old new c.loop-span.invariant.plane sets;
    })
