use Rattle.std.proofs.Common.{◌≡◌, ◌∷◌, map, take}
use Rattle.bpf_insn_types.specs.Program.{slot_count}
use Rattle.bpf_verify_model.specs.Count.{longest}
use Rattle.bpf_verify.proofs.counting.counts_of.Given as goal

abbrev pub invariant-loop-start : goal.invariant-loop-start
invariant-loop-start l = l.counts.items ≡ map (longest l.insns (slot_count l.insns)) (0 ∷ take l.start-index l.starts)
