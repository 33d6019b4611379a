-- How many bytes an instruction takes.
use Rattle.std.proofs.Common.{◌≡◌, ℕ, zero, ◌*◌, Bool, true, false, List, length, Result, Ok, Err, refl, sym, ap}
use Rattle.std.{proofs.Common.{◌∙◌}, specs.Prelude.{ℤ, pos, IfOk}}
use Rattle.bpf_insn_types.specs.declared.insn.{Width.TheVariants.{W32}, Operand.TheVariants.{Imm}}
use Rattle.bpf_insn_types.specs.{declared.insn.{ImmKind.{ImmKind}, Insn.{Insn}}, Slots.{slots_of}}
use Rattle.bpf_insn_types.specs.declared.insn.Size.TheVariants as size
use Rattle.bpf_insn_types.specs.declared.insn.MovsxBits.TheVariants as movsx
use Rattle.bpf_insn_types.specs.declared.insn.Insn.TheVariants as insn
use Rattle.bpf_insn.specs.{declared.{slot.Slot.{Slot}, codec_error.CodecFault.{CodecFault}}, SlotBytes.{slots_bytes}}
use Rattle.bpf_insn.specs.Spelling.{two_slots, has_next, spelling, bytes_at}

-- slots of 8 bytes
abbrev TakeSlots : ℕ → Result (List Slot) CodecFault → Type 0
TakeSlots n r = IfOk r (λ ss. length (slots_bytes ss) ≡ 8 * n)

two_take : (kind : ImmKind) (b : Bool) (dst : ℕ) (imm next : ℤ) → TakeSlots 2 (two_slots kind b dst imm next)
two_take kind true dst imm next = refl
two_take kind false dst imm (pos zero) = refl
two_take kind false dst imm _ = tt

spelling_takes : (i : Insn) → TakeSlots (slots_of i) (spelling i)
spelling_takes (insn.LoadImm kind dst imm next) = two_take kind (has_next kind) dst imm next
spelling_takes (insn.Movsx W32 movsx.B32 dst src) = tt
spelling_takes (insn.LoadSx size.Dw dst src offset) = tt
spelling_takes (insn.Alu w o dst (Imm imm)) = refl
spelling_takes (insn.Jump w c dst (Imm imm) offset) = refl
spelling_takes _ = refl

bytes_take : (n k : ℕ) (r : Result (List Slot) CodecFault) (bytes : List ℕ) → TakeSlots k r → bytes_at n r ≡ Ok bytes
    → length bytes ≡ 8 * k
bytes_take n k (Ok ss) bytes h e = let same : slots_bytes ss ≡ bytes = cc in ap length (sym same) ∙ h
bytes_take n k (Err f) bytes h e = absurd cc

-- the bytes of an instruction are 8 a slot
pub spelled_len : (n : ℕ) (i : Insn) (bytes : List ℕ) → bytes_at n (spelling i) ≡ Ok bytes
    → length bytes ≡ 8 * slots_of i
spelled_len n i bytes e = bytes_take n (slots_of i) (spelling i) bytes (spelling_takes i) e
