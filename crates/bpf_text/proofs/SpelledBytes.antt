-- What instructions spell is bytes, 8 a slot.
use Rattle.std.proofs.Common.{◌≡◌, ℕ, zero, suc, ◌+◌, ◌*◌, ◌<◌, ◌≤◌, List, [], ◌∷◌, ◌++◌, length, get_or, Result, Ok}
use Rattle.std.{proofs.Common.{sym, subst, arith}, specs.Prelude.{IfOk, ℤ, pos, Bool, true, false, nat_le}}
use Rattle.std.{specs.Int.{w16, w32, to_le_bytes, cast_unsigned}, proofs.lemmas.{List.{length-append}, Bool.{leb-true}}}
use Rattle.bpf_insn_types.{proofs.Cases.{each_width, each_size, each_compare}, specs.declared.insn.Width.{Width}}
use Rattle.bpf_insn_types.specs.declared.insn.{Width.TheVariants.{W32, W64}, Size.{Size}, Compare.{Compare}}
use Rattle.bpf_insn_types.specs.declared.insn.{AluOp.{AluOp}, Operand.TheVariants.{Imm, Reg}, ImmKind.{ImmKind}, Insn.{Insn}}
use Rattle.bpf_insn_types.specs.{Slots.{slots_of}, Values.{AreInsns}, Program.{slot_count}}
use Rattle.bpf_insn_types.specs.declared.insn.Size.TheVariants as size
use Rattle.bpf_insn_types.specs.declared.insn.MovsxBits.TheVariants as movsx
use Rattle.bpf_insn_types.specs.declared.insn.ByteOrder.TheVariants as order
use Rattle.bpf_insn_types.specs.declared.insn.Insn.TheVariants as insn
use Rattle.bpf_insn.specs.declared.{form.Form.{Form}, slot.Slot.{Slot}}
use Rattle.bpf_insn.specs.{declared.codec_error.CodecFault.{CodecFault}, SlotBytes.{slot_bytes, slots_bytes}}
use Rattle.bpf_insn.specs.Opcode.{alu_class, jump_class, alu_code, jump_code, size_bits, opcode}
use Rattle.bpf_insn.specs.Spelling.{has_next, two_slots, spelling, bytes_at, spelling_from}
use Rattle.bpf_insn.proofs.{Bytes.{HasBytes, HaveBytes}, HasBytes.{spelling_has}, Lengths.{spelled_len}}
use Rattle.bpf_insn.proofs.Programs.{of_ok, both_ok, bytes_ok}
use Rattle.bpf_insn_types.specs.declared.insn.AluOp.TheVariants as alu
use Rattle.bpf_insn.specs.declared.form.Form.TheVariants as form

-- ---- opcodes

class_small : (w : Width) → alu_class w ≤ 7
class_small w = leb-true (alu_class w) 7 (each_width (λ w. nat_le (alu_class w) 7 ≡ true) (assumption) w)

jump_small : (w : Width) → jump_class w ≤ 7
jump_small w = leb-true (jump_class w) 7 (each_width (λ w. nat_le (jump_class w) 7 ≡ true) (assumption) w)

alu_small : (c : AluOp) → alu_code c ≤ 12
alu_small alu.Add = omega arith
alu_small _ = omega arith

compare_small : (c : Compare) → jump_code c ≤ 13
compare_small c = leb-true (jump_code c) 13 (each_compare (λ c. nat_le (jump_code c) 13 ≡ true) (assumption) c)

size_small : (s : Size) → size_bits s ≤ 3
size_small s = leb-true (size_bits s) 3 (each_size (λ s. nat_le (size_bits s) 3 ≡ true) (assumption) s)

opcode_small : (f : Form) → opcode f < 256
opcode_small (form.AluImm w c) = (let x = alu_small c in let y = class_small w in omega (arith, x, y))
opcode_small (form.AluReg w c) = (let x = alu_small c in let y = class_small w in omega (arith, x, y))
opcode_small (form.Neg w) = (let y = class_small w in omega (arith, y))
opcode_small (form.Endian order.Le) = omega arith
opcode_small (form.Endian order.Be) = omega arith
opcode_small (form.Endian order.Swap) = omega arith
opcode_small (form.JumpImm w c) = (let x = compare_small c in let y = jump_small w in omega (arith, x, y))
opcode_small (form.JumpReg w c) = (let x = compare_small c in let y = jump_small w in omega (arith, x, y))
opcode_small (form.Load s) = (let x = size_small s in omega (arith, x))
opcode_small (form.LoadSx s) = (let x = size_small s in omega (arith, x))
opcode_small (form.StoreImm s) = (let x = size_small s in omega (arith, x))
opcode_small (form.Store s) = (let x = size_small s in omega (arith, x))
opcode_small (form.Atomic W32) = omega arith
opcode_small (form.Atomic W64) = omega arith
opcode_small _ = omega arith

-- the opcodes of slots are bytes
abbrev Small : List Slot → Type 0
Small [] = Unit {0}
Small (s ∷ ss) = (s.opcode < 256) × Small ss

two_small : (kind : ImmKind) (b : Bool) (dst : ℕ) (imm next : ℤ) → IfOk (two_slots kind b dst imm next) Small
two_small kind true dst imm next = (omega arith, (omega arith, tt))
two_small kind false dst imm (pos zero) = (omega arith, (omega arith, tt))
two_small kind _ dst imm next = tt

spelling_small : (i : Insn) → IfOk (spelling i) Small
spelling_small (insn.Alu w o dst (Imm imm)) = (opcode_small (form.AluImm w o), tt)
spelling_small (insn.Alu w o dst (Reg src)) = (opcode_small (form.AluReg w o), tt)
spelling_small (insn.Neg w dst) = (opcode_small (form.Neg w), tt)
spelling_small (insn.Movsx W32 movsx.B32 dst src) = tt
spelling_small (insn.Movsx w bits dst src) = (opcode_small (form.AluReg w alu.Mov), tt)
spelling_small (insn.Endian o b dst) = (opcode_small (form.Endian o), tt)
spelling_small (insn.Jump w c dst (Imm imm) offset) = (opcode_small (form.JumpImm w c), tt)
spelling_small (insn.Jump w c dst (Reg src) offset) = (opcode_small (form.JumpReg w c), tt)
spelling_small (insn.Load z dst src offset) = (opcode_small (form.Load z), tt)
spelling_small (insn.LoadSx size.Dw dst src offset) = tt
spelling_small (insn.StoreImm z dst offset imm) = (opcode_small (form.StoreImm z), tt)
spelling_small (insn.Store z dst src offset) = (opcode_small (form.Store z), tt)
spelling_small (insn.Atomic w o dst src offset) = (opcode_small (form.Atomic w), tt)
spelling_small (insn.LoadImm kind dst imm next) = two_small kind (has_next kind) dst imm next
spelling_small _ = (omega arith, tt)

-- ---- bytes

-- each number is a byte
abbrev pub Bytes : List ℕ → Type 0
Bytes [] = Unit {0}
Bytes (b ∷ bs) = (b < 256) × Bytes bs

bytes-append : (xs ys : List ℕ) → Bytes xs → Bytes ys → Bytes (xs ++ ys)
bytes-append [] ys a b = b
bytes-append (x ∷ xs) ys a b = (a.0, bytes-append xs ys a.1 b)

-- of bytes, those before and those after a place
pub bytes-parts : (xs ys : List ℕ) → Bytes (xs ++ ys) → Bytes xs × Bytes ys
bytes-parts [] ys h = (tt, h)
bytes-parts (x ∷ xs) ys h = (let parts = bytes-parts xs ys h.1 in ((h.0, parts.0), parts.1))

pub bytes_at_index : (bs : List ℕ) → Bytes bs → (i : ℕ) → get_or bs i 0 < 256
bytes_at_index [] h i = omega arith
bytes_at_index (b ∷ bs) h zero = h.0
bytes_at_index (b ∷ bs) h (suc i) = bytes_at_index bs h.1 i

offset_bytes : (n : ℕ) → Bytes (to_le_bytes w16 n)
offset_bytes n = (omega arith, (omega arith, tt))

imm_bytes : (n : ℕ) → Bytes (to_le_bytes w32 n)
imm_bytes n = (omega arith, (omega arith, (omega arith, (omega arith, tt))))

slot_are : (s : Slot) → s.opcode < 256 → HasBytes s → Bytes (slot_bytes s)
slot_are s small has =
    let offset = cast_unsigned w16 s.offset in
    let imm = cast_unsigned w32 s.imm in
    let numbers = bytes-append (to_le_bytes w16 offset) (to_le_bytes w32 imm) (offset_bytes offset) (imm_bytes imm) in
    (small, (omega (arith, has.dst, has.src), numbers))

slots_are : (ss : List Slot) → Small ss → HaveBytes ss → Bytes (slots_bytes ss)
slots_are [] small has = tt
slots_are (s ∷ ss) small has = bytes-append (slot_bytes s) (slots_bytes ss) (slot_are s small.0 has.0)
    (slots_are ss small.1 has.1)

at_are : (n : ℕ) (r : Result (List Slot) CodecFault) (bytes : List ℕ) → IfOk r Small → IfOk r HaveBytes
    → bytes_at n r ≡ Ok bytes → Bytes bytes
at_are n r bytes small has e =
    let slots = bytes_ok n r bytes e in
    subst Bytes (sym slots.2) (slots_are slots.0 (of_ok Small r slots.0 slots.1 small)
    (of_ok HaveBytes r slots.0 slots.1 has))

-- bytes of this many slots
pub record SlotBytes (n : ℕ) (bytes : List ℕ) : Type 0 where
  pub are : Bytes bytes
  pub long : length bytes ≡ 8 * n

pub spelled_bytes : (n : ℕ) (insns : List Insn) (bytes : List ℕ) → AreInsns insns → spelling_from n insns ≡ Ok bytes
    → SlotBytes (slot_count insns) bytes
spelled_bytes n [] bytes fit e =
    (let same : [] ≡ bytes = cc in subst (SlotBytes 0) same (record { are = tt; long = omega arith }))
spelled_bytes n (i ∷ is) bytes fit e =
    let cut = both_ok (bytes_at n (spelling i)) (spelling_from (n + slots_of i) is) bytes e in
    let here = at_are n (spelling i) cut.0 (spelling_small i) (spelling_has i fit.0) cut.2 in
    let len = spelled_len n i cut.0 cut.2 in
    let later = spelled_bytes (n + slots_of i) is cut.1 fit.1 cut.3 in
    subst (SlotBytes (slot_count (i ∷ is))) (sym cut.4) (record {
      are = bytes-append cut.0 cut.1 here later.are;
      long = omega (arith, len, later.long, length-append cut.0 cut.1);
    })
