use Rattle.std.proofs.Common.{◌≡◌, length}
use Rattle.bpf_verify_origin.proofs.InflowLaws.{InflowsFrom}
use Rattle.bpf_verify_origin.proofs.inflows.inflows.Given as goal

abbrev pub invariant-loop-slot : goal.invariant-loop-slot
invariant-loop-slot l = record {
  size : length l.table.items ≡ l.count;
  from : InflowsFrom l.unit l.slot l.table.items;
}
