use Rattle.std.proofs.Common.{◌≡◌, ◌≤◌, ◌-◌}
use Rattle.loop_core_witness.specs.Firsts.{NoneDoes}
use Rattle.loop_core_witness.proofs.finding.Search.first.Given as goal

abbrev pub invariant-loop-index : goal.invariant-loop-index
invariant-loop-index l = record {
  after : l.from ≤ l.index;
  same : l.maps ≡ l.self.start.now;
  none : NoneDoes l.kind l.self.program.now l.self.call.now l.self.start.now.words l.self.element l.from l.index;
}

abbrev pub decreases-loop-index : goal.decreases-loop-index
decreases-loop-index l = l.self.count - l.index
