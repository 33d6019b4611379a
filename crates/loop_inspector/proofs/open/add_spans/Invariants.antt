use Rattle.loop_inspector.specs.Open.{AreKept, OpenAt}
use Rattle.loop_inspector.proofs.open.add_spans.Given as goal

abbrev pub invariant-loop-by : goal.invariant-loop-by
invariant-loop-by l = record {
  kept : AreKept l.fn.spans.items l.spans.items;
  done : OpenAt l.sites l.at l.n l.by-index l.spans.items;
}
