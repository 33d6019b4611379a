use Rattle.std.proofs.Common.{◌≡◌, ◌≤◌, length}
use Rattle.private_copy.{specs.Clearing.{AreSpare}, proofs.ClearLaws.{AreAmong}}
use Rattle.private_copy.proofs.pages.Pages.clear.Given as goal

abbrev pub invariant-loop-self : goal.invariant-loop-self
invariant-loop-self l = record {
  order : l.self-inside.order ≡ l.initial.self-inside.order;
  long : length l.self-inside.table.items ≡ length l.initial.self-inside.table.items;
  within : l.self-inside.placed ≤ length l.self-inside.order.keys;
  among : AreAmong l.self-inside.order.keys l.self-inside.placed l.self-inside.table.items;
  spare : AreSpare l.self-inside.spare.items;
}

abbrev pub decreases-loop-self : goal.decreases-loop-self
decreases-loop-self l = l.self-inside.placed
