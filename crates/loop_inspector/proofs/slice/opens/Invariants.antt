use Rattle.std.proofs.Common.{◌≡◌, length, take}
use Rattle.row_facts.specs.Sites.{sites_of}
use Rattle.loop_inspector.specs.Slices.{AreOpens}
use Rattle.loop_inspector.proofs.slice.opens.Given as goal

abbrev pub invariant-loop-op : goal.invariant-loop-op
invariant-loop-op l = record {
  count : length l.opens.items ≡ l.op-index;
  next : l.next ≡ length (sites_of (take l.op-index l.ops));
  opens : AreOpens l.sites l.spans (take l.op-index l.ops) l.opens.items;
}
