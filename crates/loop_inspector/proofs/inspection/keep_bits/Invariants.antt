use Rattle.std.proofs.Common.{◌≡◌, ℕ, ◌<◌, ◌≤◌, ◌*◌, ◌&&◌}
use Rattle.loop_core_model.specs.Planes.{bit_of}
use Rattle.loop_inspector.proofs.inspection.keep_bits.Given as goal

abbrev pub invariant-loop-k : goal.invariant-loop-k
invariant-loop-k l = record {
  done : (e : ℕ) → e < 64 * l.k → bit_of l.plane e ≡ (bit_of l.fn.plane e && bit_of l.others e);
  rest : (e : ℕ) → 64 * l.k ≤ e → bit_of l.plane e ≡ bit_of l.fn.plane e;
}
