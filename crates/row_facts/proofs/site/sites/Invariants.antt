use Rattle.std.proofs.Common.{take}
use Rattle.row_facts.specs.Sites.{AreSites}
use Rattle.row_facts.proofs.site.sites.Given as goal

abbrev pub invariant-loop-op : goal.invariant-loop-op
invariant-loop-op l = AreSites l.ops l.facts (take l.op-index l.ops) l.sites.items
