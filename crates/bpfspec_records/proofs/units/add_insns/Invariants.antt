use Rattle.std.proofs.Common.{◌≡◌, ◌++◌, drop, take}
use Rattle.bpf_insn_types.specs.Program.{slot_count}
use Rattle.bpfspec_records.specs.Units.{insn_records}
use Rattle.bpfspec_records.proofs.units.add_insns.Given as goal

abbrev pub invariant-loop-insn : goal.invariant-loop-insn
invariant-loop-insn l = record {
  low : l.slot ≡ slot_count (take l.insn-index l.insns);
  so_far : l.records.items ++ insn_records l.with_values l.inspection l.slot (drop l.insn-index l.insns)
      ≡ l.initial.records.items ++ insn_records l.with_values l.inspection 0 l.insns;
}
