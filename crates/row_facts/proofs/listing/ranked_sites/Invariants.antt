use Rattle.std.proofs.Common.{take}
use Rattle.row_facts.specs.SiteKinds.{AreListed}
use Rattle.row_facts.proofs.listing.ranked_sites.Given as goal

abbrev pub invariant-loop-op : goal.invariant-loop-op
invariant-loop-op l = AreListed (take l.op-index l.list.list.items) l.made.accesses.items l.made.sites.items
