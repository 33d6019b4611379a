use Rattle.std.{proofs.Common.{◌≡◌, ◌-◌, ◌++◌}, specs.List.{range_with_len}}
use Rattle.loop_core_witness.specs.Grids.{AreRows, indices}
use Rattle.loop_core_witness.proofs.following.add_rows.Given as goal

abbrev pub invariant-loop-index : goal.invariant-loop-index
invariant-loop-index l = record {
  rows : AreRows l.program l.call l.start.words l.elements l.rows.items;
  iterations : indices l.rows.items ≡ indices l.fn.rows.items ++ range_with_len l.fn.span.from
      (l.index - l.fn.span.from);
}
