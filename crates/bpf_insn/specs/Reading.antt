-- What slots say: an instruction, or the least number that applies to the first slot with a fault.
use Rattle.std.specs.Prelude.{◌≡◌, ℕ, zero, suc, ◌+◌, ◌-◌, ◌%◌, ℤ, pos, negsuc, Bool, true, false, ◌||◌, ◌&&◌, not}
use Rattle.std.specs.Prelude.{List, [], ◌∷◌, length, drop, Option, Some, None, Result, Ok, Err, ◌==◌, nat_lt}
use Rattle.std.specs.Prelude.{if◌then◌else◌}
use Rattle.bpf_insn_types.specs.declared.insn.{Width.{Width, TheVariants.{W32, W64}}, ByteOrder.{ByteOrder}}
use Rattle.bpf_insn_types.specs.declared.insn.{AluOp.{AluOp}, Operand.{Operand, TheVariants.{Imm, Reg}}, Insn.{Insn}}
use Rattle.bpf_insn_types.specs.declared.insn.{Callee.TheVariants.{Helper, Local, Btf}, AtomicOp.{AtomicOp}}
use Rattle.bpf_insn_types.specs.declared.insn.{AtomicOp.TheVariants.{Simple, Fetch, Xchg, Cmpxchg}, ImmKind.{ImmKind}}
use Rattle.bpf_insn_types.specs.Slots.{slots_of}
use Rattle.bpf_insn_types.specs.declared.insn.EndianBits.TheVariants as endian
use Rattle.bpf_insn_types.specs.declared.insn.MovsxBits.TheVariants as movsx
use Rattle.bpf_insn_types.specs.declared.insn.AluOp.TheVariants as op
use Rattle.bpf_insn_types.specs.declared.insn.SimpleOp.TheVariants as simple
use Rattle.bpf_insn_types.specs.declared.insn.ImmKind.TheVariants as kind
use Rattle.bpf_insn_types.specs.declared.insn.Insn.TheVariants as insn
use Rattle.bpf_insn.specs.{declared.{form.Form.{Form}, slot.Slot.{Slot}}, Opcode.{form_at}}
use Rattle.bpf_insn.specs.{declared.codec_error.{CodecFault.{CodecFault}, CodecError.{CodecError}}, SlotBytes.{slot_at}}
use Rattle.bpf_insn.specs.{declared.codec_error.CodecError.TheVariants.{Refused, Memory}, Spelling.{has_next}}
use Rattle.bpf_insn.specs.declared.form.Form.TheVariants as form
use Rattle.bpf_insn.specs.declared.codec_error.CodecFault.TheVariants as faults

-- whether a signed field is this number
abbrev pub is : ℤ → ℕ → Bool
is (pos m) n = m == n
is (negsuc m) n = false

-- the operations whose offset says whether they are signed (RFC 9669, section 4.1)
abbrev pub has_signed : AluOp → Bool
has_signed op.Div = true
has_signed op.Sdiv = true
has_signed op.Mod = true
has_signed op.Smod = true
has_signed _ = false

-- the operations whose offset says something where both operands are registers (RFC 9669, section 4.1)
abbrev pub has_offset : AluOp → Bool
has_offset op.Mov = true
has_offset o = has_signed o

-- whether a form uses the fields dst, src, offset and imm, in this order
abbrev pub uses : Form → Bool × Bool × Bool × Bool
uses (form.AluImm w o) = (true, false, has_signed o, true)
uses (form.AluReg w o) = (true, true, has_offset o, false)
uses (form.Neg w) = (true, false, false, false)
uses (form.Endian o) = (true, false, false, true)
uses form.Ja = (false, false, true, false)
uses form.Ja32 = (false, false, false, true)
uses (form.JumpImm w c) = (true, false, true, true)
uses (form.JumpReg w c) = (true, true, true, false)
uses form.Call = (false, true, false, true)
uses form.Exit = (false, false, false, false)
uses (form.Load s) = (true, true, true, false)
uses (form.LoadSx s) = (true, true, true, false)
uses (form.StoreImm s) = (true, false, true, true)
uses (form.Store s) = (true, true, true, false)
uses (form.Atomic w) = (true, true, true, true)
uses form.LoadImm = (true, true, false, true)

-- each field that the form doesn't use is zero
abbrev pub unused_are_zero : Form → Slot → Bool
unused_are_zero f s =
    ((uses f).0 || s.dst == 0) && ((uses f).1 || s.src == 0) && ((uses f).2 || is s.offset 0)
    && ((uses f).3 || is s.imm 0)

-- plain at offset 0, signed at offset 1
abbrev pub signed_op_at : ℤ → AluOp → AluOp → Result AluOp CodecFault
signed_op_at offset plain signed = if is offset 0 then Ok plain else if is offset 1 then Ok signed
    else Err faults.Offset

-- the operation at an offset, which says of a division or a modulo whether it is signed (RFC 9669, section 4.1)
abbrev pub alu_op_at : AluOp → ℤ → Result AluOp CodecFault
alu_op_at op.Div offset = signed_op_at offset op.Div op.Sdiv
alu_op_at op.Sdiv offset = signed_op_at offset op.Div op.Sdiv
alu_op_at op.Mod offset = signed_op_at offset op.Mod op.Smod
alu_op_at op.Smod offset = signed_op_at offset op.Mod op.Smod
alu_op_at o offset = Ok o

-- the instruction of an operation
abbrev pub alu_insn : Width → ℕ → Operand → Result AluOp CodecFault → Result Insn CodecFault
alu_insn w dst operand (Ok o) = Ok (insn.Alu w o dst operand)
alu_insn w dst operand (Err fault) = Err fault

-- a sign-extending move of 32 bits is of width 64 alone (RFC 9669, section 4.1)
abbrev pub movsx_32 : Width → ℕ → ℕ → Result Insn CodecFault
movsx_32 W32 dst src = Err faults.Offset
movsx_32 W64 dst src = Ok (insn.Movsx W64 movsx.B32 dst src)

-- a move of a register by its offset (RFC 9669, section 4.1)
abbrev pub mov_at : Width → ℕ → ℕ → ℤ → Result Insn CodecFault
mov_at w dst src offset =
    if is offset 0 then Ok (insn.Alu w op.Mov dst (Reg src))
    else if is offset 8 then Ok (insn.Movsx w movsx.B8 dst src)
    else if is offset 16 then Ok (insn.Movsx w movsx.B16 dst src)
    else if is offset 32 then movsx_32 w dst src
    else Err faults.Offset

-- a byte order by its immediate (RFC 9669, section 4.2)
abbrev pub endian_at : ByteOrder → ℕ → ℤ → Result Insn CodecFault
endian_at o dst imm =
    if is imm 16 then Ok (insn.Endian o endian.B16 dst)
    else if is imm 32 then Ok (insn.Endian o endian.B32 dst)
    else if is imm 64 then Ok (insn.Endian o endian.B64 dst)
    else Err faults.Immediate

-- a call by its source (RFC 9669, section 4.3.1)
abbrev pub call_at : ℕ → ℤ → Result Insn CodecFault
call_at src imm =
    if src == 0 then Ok (insn.Call Helper imm)
    else if src == 1 then Ok (insn.Call Local imm)
    else if src == 2 then Ok (insn.Call Btf imm)
    else Err faults.CallSource

-- an operation on memory by its immediate (RFC 9669, section 5.3)
abbrev pub atomic_at : ℤ → Result AtomicOp CodecFault
atomic_at imm =
    if is imm 0 then Ok (Simple simple.Add) else if is imm 64 then Ok (Simple simple.Or)
    else if is imm 80 then Ok (Simple simple.And) else if is imm 160 then Ok (Simple simple.Xor)
    else if is imm 1 then Ok (Fetch simple.Add) else if is imm 65 then Ok (Fetch simple.Or)
    else if is imm 81 then Ok (Fetch simple.And) else if is imm 161 then Ok (Fetch simple.Xor)
    else if is imm 225 then Ok Xchg else if is imm 241 then Ok Cmpxchg
    else Err faults.Immediate

-- the instruction of an operation on memory
abbrev pub atomic_insn : Width → ℕ → ℕ → ℤ → Result AtomicOp CodecFault → Result Insn CodecFault
atomic_insn w dst src offset (Ok o) = Ok (insn.Atomic w o dst src offset)
atomic_insn w dst src offset (Err fault) = Err fault

-- the kind of a two-slot load by its source (RFC 9669, section 5.4)
abbrev pub imm_kind_at : ℕ → Option ImmKind
imm_kind_at src =
    if src == 0 then Some kind.Number else if src == 1 then Some kind.MapFd else if src == 2 then Some kind.MapFdValue
    else if src == 3 then Some kind.Variable else if src == 4 then Some kind.Code else if src == 5 then Some kind.Map
    else if src == 6 then Some kind.MapValue else None

-- a second slot is zero but for its immediate (RFC 9669, section 3.2)
abbrev pub is_second : Slot → Bool
is_second t = t.opcode == 0 && t.dst == 0 && t.src == 0 && is t.offset 0

-- a two-slot load by its kind and the next slot
abbrev pub load_imm_at : Option ImmKind → ℕ → ℤ → Option Slot → Result Insn CodecFault
load_imm_at None dst imm next = Err faults.LoadKind
load_imm_at (Some kind) dst imm None = Err faults.SecondSlot
load_imm_at (Some kind) dst imm (Some t) =
    if not (has_next kind || is t.imm 0) then Err faults.FieldNotZero
    else if is_second t then Ok (insn.LoadImm kind dst imm t.imm)
    else Err faults.SecondSlot

-- the instruction of a form with these fields; next is the slot after it
abbrev pub insn_of_form : Form → ℕ → ℕ → ℤ → ℤ → Option Slot → Result Insn CodecFault
insn_of_form (form.AluImm w o) dst src offset imm next = alu_insn w dst (Imm imm) (alu_op_at o offset)
insn_of_form (form.AluReg w op.Mov) dst src offset imm next = mov_at w dst src offset
insn_of_form (form.AluReg w o) dst src offset imm next = alu_insn w dst (Reg src) (alu_op_at o offset)
insn_of_form (form.Neg w) dst src offset imm next = Ok (insn.Neg w dst)
insn_of_form (form.Endian o) dst src offset imm next = endian_at o dst imm
insn_of_form form.Ja dst src offset imm next = Ok (insn.Ja offset)
insn_of_form form.Ja32 dst src offset imm next = Ok (insn.Ja32 imm)
insn_of_form (form.JumpImm w c) dst src offset imm next = Ok (insn.Jump w c dst (Imm imm) offset)
insn_of_form (form.JumpReg w c) dst src offset imm next = Ok (insn.Jump w c dst (Reg src) offset)
insn_of_form form.Call dst src offset imm next = call_at src imm
insn_of_form form.Exit dst src offset imm next = Ok insn.Exit
insn_of_form (form.Load s) dst src offset imm next = Ok (insn.Load s dst src offset)
insn_of_form (form.LoadSx s) dst src offset imm next = Ok (insn.LoadSx s dst src offset)
insn_of_form (form.StoreImm s) dst src offset imm next = Ok (insn.StoreImm s dst offset imm)
insn_of_form (form.Store s) dst src offset imm next = Ok (insn.Store s dst src offset)
insn_of_form (form.Atomic w) dst src offset imm next = atomic_insn w dst src offset (atomic_at imm)
insn_of_form form.LoadImm dst src offset imm next = load_imm_at (imm_kind_at src) dst imm next

-- the tests of a slot in the order of their numbers
abbrev pub checked_slot : Option Form → Slot → Option Slot → Result Insn CodecFault
checked_slot None s next = Err faults.UnknownOpcode
checked_slot (Some f) s next =
    if nat_lt 10 s.dst || nat_lt 10 s.src then Err faults.RegisterNumber
    else if unused_are_zero f s then insn_of_form f s.dst s.src s.offset s.imm next
    else Err faults.FieldNotZero

-- the instruction that begins at a slot, or its least fault; next is the slot after it
unfoldable pub insn_of_slot : Slot → Option Slot → Result Insn CodecFault
insn_of_slot s next = checked_slot (form_at s.opcode) s next

-- the slot at the front, if it is complete
abbrev pub front_slot : List ℕ → Option Slot
front_slot bytes = if nat_lt (length bytes) 8 then None else Some (slot_at bytes)

-- the instruction at the front of bytes
unfoldable pub first_insn : List ℕ → Result Insn CodecFault
first_insn bytes = if nat_lt (length bytes) 8 then Err faults.Incomplete
    else insn_of_slot (slot_at bytes) (front_slot (drop 8 bytes))

-- the refusal of the instruction at the front of bytes, at this slot
abbrev pub FailsFirst : List ℕ → ℕ → CodecError → Type 0
FailsFirst bytes slot Memory = ⊥
FailsFirst bytes slot (Refused fault n) = (first_insn bytes ≡ Err fault) × (n ≡ slot)

-- the complete slots of bytes
unfoldable pub slots_in : List ℕ → List Slot
slots_in (a ∷ b ∷ c ∷ d ∷ e ∷ f ∷ g ∷ h ∷ rest) = slot_at (a ∷ b ∷ c ∷ d ∷ e ∷ f ∷ g ∷ h ∷ []) ∷ slots_in rest
slots_in _ = []

-- the first of some slots
abbrev pub first : List Slot → Option Slot
first [] = None
first (s ∷ ss) = Some s

-- how many slots after its own an instruction takes
abbrev pub more_of : Result Insn CodecFault → ℕ
more_of (Ok i) = slots_of i - 1
more_of (Err fault) = 0

-- an instruction before others, or the refusal at slot n
abbrev pub insn_before : ℕ → Result Insn CodecFault → Result (List Insn) CodecError → Result (List Insn) CodecError
insn_before n (Err fault) later = Err (Refused fault n)
insn_before n (Ok i) (Ok is) = Ok (i ∷ is)
insn_before n (Ok i) (Err e) = Err e

-- the end of a program at slot n, where some bytes are left
abbrev pub end_of_bytes : ℕ → ℕ → Result (List Insn) CodecError
end_of_bytes zero n = Ok []
end_of_bytes (suc left) n = Err (Refused faults.Incomplete n)

-- the instructions in slots from slot n on, of which the first may be taken by the instruction before, with some bytes
-- left after
unfoldable pub insns_in : ℕ → List Slot → ℕ → ℕ → Result (List Insn) CodecError
insns_in left [] taken n = end_of_bytes left n
insns_in left (s ∷ ss) (suc taken) n = insns_in left ss taken (n + 1)
insns_in left (s ∷ ss) zero n =
    insn_before n (insn_of_slot s (first ss)) (insns_in left ss (more_of (insn_of_slot s (first ss))) (n + 1))

-- the program in bytes, or its first fault
unfoldable pub reading : List ℕ → Result (List Insn) CodecError
reading bytes = insns_in (length bytes % 8) (slots_in bytes) 0 0
