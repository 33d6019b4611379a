use Rattle.std.proofs.Common.{◌≡◌, drop}
use Rattle.bpf_text_operands.specs.Stems.{atomics, first_atomic}
use Rattle.bpf_text_operands.proofs.tables.atomic_at.Given as goal

abbrev pub invariant-loop-op : goal.invariant-loop-op
invariant-loop-op l = first_atomic l.word (drop l.op-index l.op-items) ≡ first_atomic l.word atomics
