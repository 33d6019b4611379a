use Rattle.std.{proofs.Common.{◌≡◌, take}, specs.List.{AllByRecursion}}
use Rattle.loop_core_witness.specs.Grids.{IsCell, elements_of}
use Rattle.loop_core_witness.proofs.following.row_of.Given as goal

abbrev pub invariant-loop-at : goal.invariant-loop-at
invariant-loop-at l = record {
  same : l.maps ≡ l.start;
  columns : elements_of l.cells.items ≡ take l.at l.elements;
  cells : AllByRecursion (IsCell l.program l.call l.start.words l.index) l.cells.items;
}
