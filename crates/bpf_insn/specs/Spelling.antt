-- The one spelling of each instruction, a case a form.
use Rattle.std.specs.Prelude.{◌≡◌, ℕ, zero, ℤ, pos, ◌+◌, ◌/◌, length, IfSome, Bool, true, false, List, [], ◌∷◌, ◌++◌}
use Rattle.std.specs.{Prelude.{Result, Ok, Err}, Option.{option_to_list}}
use Rattle.bpf_insn_types.specs.declared.insn.{Width.TheVariants.{W32}, EndianBits.{EndianBits}, MovsxBits.{MovsxBits}}
use Rattle.bpf_insn_types.specs.declared.insn.{AluOp.{AluOp}, Operand.TheVariants.{Imm, Reg}, Callee.{Callee}}
use Rattle.bpf_insn_types.specs.declared.insn.{Callee.TheVariants.{Helper, Local, Btf}, SimpleOp.{SimpleOp}}
use Rattle.bpf_insn_types.specs.declared.insn.AtomicOp.{AtomicOp, TheVariants.{Simple, Fetch, Xchg, Cmpxchg}}
use Rattle.bpf_insn_types.specs.{declared.insn.{ImmKind.{ImmKind}, Insn.{Insn}}, Slots.{slots_of}}
use Rattle.bpf_insn_types.specs.declared.insn.Size.TheVariants as size
use Rattle.bpf_insn_types.specs.declared.insn.EndianBits.TheVariants as endian
use Rattle.bpf_insn_types.specs.declared.insn.MovsxBits.TheVariants as movsx
use Rattle.bpf_insn_types.specs.declared.insn.AluOp.TheVariants as op
use Rattle.bpf_insn_types.specs.declared.insn.SimpleOp.TheVariants as simple
use Rattle.bpf_insn_types.specs.declared.insn.ImmKind.TheVariants as kind
use Rattle.bpf_insn_types.specs.declared.insn.Insn.TheVariants as insn
use Rattle.bpf_insn.specs.declared.{form.Form.{Form}, slot.Slot.{Slot}, encoding.Spelled.{Spelled}}
use Rattle.bpf_insn.specs.declared.codec_error.{CodecFault.{CodecFault}, CodecError.{CodecError}}
use Rattle.bpf_insn.specs.declared.codec_error.CodecError.TheVariants.{Refused, Memory}
use Rattle.bpf_insn.specs.SlotBytes.{slot, slots_bytes, SlotFits}
use Rattle.bpf_insn.specs.declared.form.Form.TheVariants as form
use Rattle.bpf_insn.specs.declared.codec_error.CodecFault.TheVariants as faults

-- the offset of an operation: 1 for signed division and modulo (RFC 9669, section 4.1)
abbrev pub op_offset : AluOp → ℤ
op_offset op.Sdiv = pos 1
op_offset op.Smod = pos 1
op_offset _ = pos 0

-- the offset of a sign-extending move: its bits (RFC 9669, section 4.1)
abbrev pub movsx_offset : MovsxBits → ℤ
movsx_offset movsx.B8 = pos 8
movsx_offset movsx.B16 = pos 16
movsx_offset movsx.B32 = pos 32

-- the immediate of a byte order: its bits (RFC 9669, section 4.2)
abbrev pub endian_imm : EndianBits → ℤ
endian_imm endian.B16 = pos 16
endian_imm endian.B32 = pos 32
endian_imm endian.B64 = pos 64

-- the source of a call (RFC 9669, section 4.3.1)
abbrev pub callee_src : Callee → ℕ
callee_src Helper = 0
callee_src Local = 1
callee_src Btf = 2

-- the immediate of a simple operation on memory (RFC 9669, section 5.3)
abbrev pub simple_imm : SimpleOp → ℕ
simple_imm simple.Add = 0
simple_imm simple.Or = 64
simple_imm simple.And = 80
simple_imm simple.Xor = 160

-- the immediate of an operation on memory; 1 is FETCH (RFC 9669, section 5.3)
abbrev pub atomic_imm : AtomicOp → ℤ
atomic_imm (Simple o) = pos (simple_imm o)
atomic_imm (Fetch o) = pos (simple_imm o + 1)
atomic_imm Xchg = pos 225
atomic_imm Cmpxchg = pos 241

-- the source of a two-slot load (RFC 9669, section 5.4)
abbrev pub kind_src : ImmKind → ℕ
kind_src kind.Number = 0
kind_src kind.MapFd = 1
kind_src kind.MapFdValue = 2
kind_src kind.Variable = 3
kind_src kind.Code = 4
kind_src kind.Map = 5
kind_src kind.MapValue = 6

-- whether a two-slot load has a second number (RFC 9669, section 5.4)
abbrev pub has_next : ImmKind → Bool
has_next kind.Number = true
has_next kind.MapFdValue = true
has_next kind.MapValue = true
has_next _ = false

-- one slot
abbrev pub one_slot : Form → ℕ → ℕ → ℤ → ℤ → Result (List Slot) CodecFault
one_slot f dst src offset imm = Ok (slot f dst src offset imm ∷ [])

-- the second slot of a load: only its immediate isn't zero (RFC 9669, section 3.2)
abbrev pub second : ℤ → Slot
second next = record { opcode = 0; dst = 0; src = 0; offset = pos 0; imm = next }

-- both slots of a load
abbrev pub both : ImmKind → ℕ → ℤ → ℤ → Result (List Slot) CodecFault
both kind dst imm next = Ok (slot form.LoadImm dst (kind_src kind) (pos 0) imm ∷ second next ∷ [])

-- a load of two slots; a second number is zero where its kind has none
abbrev pub two_slots : ImmKind → Bool → ℕ → ℤ → ℤ → Result (List Slot) CodecFault
two_slots kind true dst imm next = both kind dst imm next
two_slots kind false dst imm (pos zero) = both kind dst imm (pos 0)
two_slots kind false dst imm _ = Err faults.FieldNotZero

-- the slots of an instruction, or the number of the refusal where it has none (RFC 9669, sections 3 to 5)
abbrev pub spelling : Insn → Result (List Slot) CodecFault
spelling (insn.Alu w o dst (Imm imm)) = one_slot (form.AluImm w o) dst 0 (op_offset o) imm
spelling (insn.Alu w o dst (Reg src)) = one_slot (form.AluReg w o) dst src (op_offset o) (pos 0)
spelling (insn.Neg w dst) = one_slot (form.Neg w) dst 0 (pos 0) (pos 0)
spelling (insn.Movsx W32 movsx.B32 dst src) = Err faults.Offset
spelling (insn.Movsx w bits dst src) = one_slot (form.AluReg w op.Mov) dst src (movsx_offset bits) (pos 0)
spelling (insn.Endian order bits dst) = one_slot (form.Endian order) dst 0 (pos 0) (endian_imm bits)
spelling (insn.Ja offset) = one_slot form.Ja 0 0 offset (pos 0)
spelling (insn.Ja32 imm) = one_slot form.Ja32 0 0 (pos 0) imm
spelling (insn.Jump w c dst (Imm imm) offset) = one_slot (form.JumpImm w c) dst 0 offset imm
spelling (insn.Jump w c dst (Reg src) offset) = one_slot (form.JumpReg w c) dst src offset (pos 0)
spelling (insn.Call callee imm) = one_slot form.Call 0 (callee_src callee) (pos 0) imm
spelling insn.Exit = one_slot form.Exit 0 0 (pos 0) (pos 0)
spelling (insn.Load s dst src offset) = one_slot (form.Load s) dst src offset (pos 0)
spelling (insn.LoadSx size.Dw dst src offset) = Err faults.UnknownOpcode
spelling (insn.LoadSx s dst src offset) = one_slot (form.LoadSx s) dst src offset (pos 0)
spelling (insn.StoreImm s dst offset imm) = one_slot (form.StoreImm s) dst 0 offset imm
spelling (insn.Store s dst src offset) = one_slot (form.Store s) dst src offset (pos 0)
spelling (insn.Atomic w o dst src offset) = one_slot (form.Atomic w) dst src offset (atomic_imm o)
spelling (insn.LoadImm kind dst imm next) = two_slots kind (has_next kind) dst imm next

-- the slots of the encoder's struct, in order
abbrev pub spelled_slots : Spelled → List Slot
spelled_slots s = s.first ∷ option_to_list s.second

-- each of its slots has bytes
pub record SpelledFits (s : Spelled) : Type 0 where
  pub first : SlotFits s.first
  pub second : IfSome s.second SlotFits

-- the bytes of slots, or the refusal at slot n
abbrev pub bytes_at : ℕ → Result (List Slot) CodecFault → Result (List ℕ) CodecError
bytes_at n (Ok slots) = Ok (slots_bytes slots)
bytes_at n (Err fault) = Err (Refused fault n)

-- the bytes of an instruction alone
abbrev pub insn_bytes : Insn → Result (List ℕ) CodecError
insn_bytes i = bytes_at 0 (spelling i)

-- one after the other, or the first refusal
abbrev pub both_or_refusal : Result (List ℕ) CodecError → Result (List ℕ) CodecError → Result (List ℕ) CodecError
both_or_refusal (Err e) later = Err e
both_or_refusal (Ok bytes) (Err e) = Err e
both_or_refusal (Ok bytes) (Ok later) = Ok (bytes ++ later)

-- the bytes of instructions from slot n on, or the refusal at the first slot whose instruction has no spelling
abbrev pub spelling_from : ℕ → List Insn → Result (List ℕ) CodecError
spelling_from n [] = Ok []
spelling_from n (i ∷ is) = both_or_refusal (bytes_at n (spelling i)) (spelling_from (n + slots_of i) is)

-- the bytes of a program
abbrev pub program_spelling : List Insn → Result (List ℕ) CodecError
program_spelling insns = spelling_from 0 insns

-- what writing an instruction after the bytes of whole slots leaves: its bytes at the end, or the refusal at the next
-- slot
abbrev pub Appends : List ℕ → List ℕ → Insn → Result (Unit {0}) CodecError → Type 0
Appends old new i (Ok u) = (bytes : List ℕ) × (bytes_at (length old / 8) (spelling i) ≡ Ok bytes) × (new ≡ old ++ bytes)
Appends old new i (Err Memory) = Unit {0}
Appends old new i (Err (Refused fault n)) = bytes_at (length old / 8) (spelling i) ≡ Err (Refused fault n)
