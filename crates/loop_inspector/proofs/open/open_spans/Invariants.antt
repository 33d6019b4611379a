use Rattle.loop_inspector.specs.Open.{OpenUpto}
use Rattle.loop_inspector.proofs.open.open_spans.Given as goal

abbrev pub invariant-loop-at : goal.invariant-loop-at
invariant-loop-at l = OpenUpto l.sites l.n l.at-index l.spans.items
