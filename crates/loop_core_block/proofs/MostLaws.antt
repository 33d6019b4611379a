-- How many instructions an iteration takes at most.
use Rattle.std.proofs.Common.{◌≡◌, ℕ, sym, ap}
use Rattle.bpf_insn_types.specs.Program.{Program, slot_count}
use Rattle.bpf_verify_model.specs.Count.{longest, function_start, count_of}
use Rattle.bpf_verify_sound.specs.Soundness.{most_from}

-- from where a function starts it is the function's count
pub count_is : (program : Program) (function slot : ℕ) → function_start program.insns function ≡ slot
    → most_from program slot ≡ count_of program.insns function
unfolding count_of
count_is program function slot same = ap (longest program.insns (slot_count program.insns)) (sym same)
