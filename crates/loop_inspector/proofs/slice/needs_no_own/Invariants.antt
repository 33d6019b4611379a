use Rattle.std.proofs.Common.{◌≡◌, ℕ, ◌<◌, true, List, length, take}
use Rattle.std.specs.Prelude.{slice_get, Some}
use Rattle.row_list.specs.{declared.row_op.RowOp.{RowOp}, Places.{is_access}}
use Rattle.row_facts.specs.{declared.fact.Fact.{Fact}, Facts.{AreFacts}, Meetings.{LoadsNoneOwn}}
use Rattle.row_facts.specs.Sites.{AreSites, sites_of}
use Rattle.loop_inspector.specs.Slices.{IsNeeded}
use Rattle.loop_inspector.proofs.slice.needs_no_own.Given as goal

abbrev pub invariant-loop-k : goal.invariant-loop-k
invariant-loop-k l = record {
  next : l.next ≡ length (sites_of (take l.k l.ops));
  own : (facts : List Fact) → AreFacts l.ops facts → AreSites l.ops facts l.ops l.sites → (j : ℕ) (op : RowOp)
      → j < l.k → slice_get l.ops j ≡ Some op → is_access op ≡ true → IsNeeded l.needed j
      → LoadsNoneOwn l.ops (length (sites_of (take j l.ops)));
}
