use Rattle.std.proofs.Common.{◌≡◌, ℕ, ◌<◌, length, get_or, None}
use Rattle.bpf_verify_model.specs.Inflow.{entry}
use Rattle.bpf_verify.proofs.table.first_table.Given as goal

abbrev pub invariant-loop-slot : goal.invariant-loop-slot
invariant-loop-slot l = record {
  size : length l.table.items ≡ l.slot;
  known : (k : ℕ) → k < l.slot → get_or l.table.items k None ≡ entry k;
}
