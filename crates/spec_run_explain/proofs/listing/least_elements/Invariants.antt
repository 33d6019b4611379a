use Rattle.std.{proofs.Common.{◌≡◌, ◌≤◌, length}, specs.List.{filter, range_with_len}}
use Rattle.loop_core_model.specs.Planes.{bit_of}
use Rattle.spec_run_explain.proofs.listing.least_elements.Given as goal

abbrev pub invariant-loop-e : goal.invariant-loop-e
invariant-loop-e l = record {
  listed : l.elements.items ≡ filter (bit_of l.plane) (range_with_len 0 l.e);
  few : length l.elements.items ≤ l.most;
}
