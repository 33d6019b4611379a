-- The opcode of each form, and the form that an opcode says.
use Rattle.std.specs.{Prelude.{ℕ, ◌+◌, ◌*◌, ◌/◌, ◌%◌, Option, Some, None, ◌==◌, if◌then◌else◌}, Option.{option_map}}
use Rattle.bpf_insn_types.specs.declared.insn.{Width.{Width, TheVariants.{W32, W64}}, Size.{Size}, Compare.{Compare}}
use Rattle.bpf_insn_types.specs.declared.insn.Size.TheVariants.{B, H, W, Dw}
use Rattle.bpf_insn_types.specs.declared.insn.AluOp.{AluOp}
use Rattle.bpf_insn_types.specs.declared.insn.AluOp.TheVariants as op
use Rattle.bpf_insn_types.specs.declared.insn.ByteOrder.TheVariants as order
use Rattle.bpf_insn_types.specs.declared.insn.Compare.TheVariants as compare
use Rattle.bpf_insn.specs.declared.form.Form.{Form}
use Rattle.bpf_insn.specs.declared.form.Form.TheVariants as form

-- the low three bits of arithmetic at a width: ALU, ALU64 (RFC 9669, section 3.1)
abbrev pub alu_class : Width → ℕ
alu_class W32 = 4
alu_class W64 = 7

-- the low three bits of a conditional jump at a width: JMP32, JMP (RFC 9669, section 3.1)
abbrev pub jump_class : Width → ℕ
jump_class W32 = 6
jump_class W64 = 5

-- the high four bits of arithmetic; signed division and modulo share theirs (RFC 9669, section 4.1)
abbrev pub alu_code : AluOp → ℕ
alu_code op.Add = 0
alu_code op.Sub = 1
alu_code op.Mul = 2
alu_code op.Div = 3
alu_code op.Sdiv = 3
alu_code op.Or = 4
alu_code op.And = 5
alu_code op.Lsh = 6
alu_code op.Rsh = 7
alu_code op.Mod = 9
alu_code op.Smod = 9
alu_code op.Xor = 10
alu_code op.Mov = 11
alu_code op.Arsh = 12

-- the high four bits of a conditional jump (RFC 9669, section 4.3)
abbrev pub jump_code : Compare → ℕ
jump_code compare.Eq = 1
jump_code compare.Gt = 2
jump_code compare.Ge = 3
jump_code compare.Set = 4
jump_code compare.Ne = 5
jump_code compare.Sgt = 6
jump_code compare.Sge = 7
jump_code compare.Lt = 10
jump_code compare.Le = 11
jump_code compare.Slt = 12
jump_code compare.Sle = 13

-- the two bits of a size (RFC 9669, section 5)
abbrev pub size_bits : Size → ℕ
size_bits W = 0
size_bits H = 1
size_bits B = 2
size_bits Dw = 3

-- the opcode of a form (RFC 9669, sections 3 to 5)
abbrev pub opcode : Form → ℕ
opcode (form.AluImm w o) = 16 * alu_code o + alu_class w
opcode (form.AluReg w o) = 16 * alu_code o + 8 + alu_class w
opcode (form.Neg w) = 128 + alu_class w
opcode (form.Endian order.Le) = 212
opcode (form.Endian order.Be) = 220
opcode (form.Endian order.Swap) = 215
opcode form.Ja = 5
opcode form.Ja32 = 6
opcode (form.JumpImm w c) = 16 * jump_code c + jump_class w
opcode (form.JumpReg w c) = 16 * jump_code c + 8 + jump_class w
opcode form.Call = 133
opcode form.Exit = 149
opcode (form.Load s) = 97 + 8 * size_bits s
opcode (form.LoadSx s) = 129 + 8 * size_bits s
opcode (form.StoreImm s) = 98 + 8 * size_bits s
opcode (form.Store s) = 99 + 8 * size_bits s
opcode (form.Atomic W32) = 195
opcode (form.Atomic W64) = 219
opcode form.LoadImm = 24

-- the arithmetic of four bits
abbrev pub alu_op_of_code : ℕ → Option AluOp
alu_op_of_code n =
    if n == 0 then Some op.Add else if n == 1 then Some op.Sub else if n == 2 then Some op.Mul
    else if n == 3 then Some op.Div else if n == 4 then Some op.Or else if n == 5 then Some op.And
    else if n == 6 then Some op.Lsh else if n == 7 then Some op.Rsh else if n == 9 then Some op.Mod
    else if n == 10 then Some op.Xor else if n == 11 then Some op.Mov else if n == 12 then Some op.Arsh
    else None

-- the compare of four bits
abbrev pub compare_at : ℕ → Option Compare
compare_at n =
    if n == 1 then Some compare.Eq else if n == 2 then Some compare.Gt else if n == 3 then Some compare.Ge
    else if n == 4 then Some compare.Set else if n == 5 then Some compare.Ne else if n == 6 then Some compare.Sgt
    else if n == 7 then Some compare.Sge else if n == 10 then Some compare.Lt else if n == 11 then Some compare.Le
    else if n == 12 then Some compare.Slt else if n == 13 then Some compare.Sle else None

-- the size of two bits
abbrev pub size_at : ℕ → Size
size_at n = if n == 0 then W else if n == 1 then H else if n == 2 then B else Dw

-- byte orders by their source bit (RFC 9669, section 4.2)
abbrev pub endian_form : Width → ℕ → Option Form
endian_form W32 source = if source == 0 then Some (form.Endian order.Le) else Some (form.Endian order.Be)
endian_form W64 source = if source == 0 then Some (form.Endian order.Swap) else None

-- what arithmetic of a width says by its four bits and its source bit: 0 for an immediate, 1 for a register
abbrev pub alu_form : Width → ℕ → ℕ → Option Form
alu_form w code source =
    if code == 8 then (if source == 0 then Some (form.Neg w) else None)
    else if code == 13 then endian_form w source
    else option_map (λ o. if source == 0 then form.AluImm w o else form.AluReg w o) (alu_op_of_code code)

-- unconditional jumps (RFC 9669, section 4.3)
abbrev pub ja_form : Width → Form
ja_form W32 = form.Ja32
ja_form W64 = form.Ja

-- calls and exits are of the class JMP alone (RFC 9669, section 4.3)
abbrev pub only_jmp : Width → Form → Option Form
only_jmp W32 f = None
only_jmp W64 f = Some f

-- what a jump of a width says by its four bits and its source bit: 0 for an immediate, 1 for a register
abbrev pub jump_form : Width → ℕ → ℕ → Option Form
jump_form w code source =
    if code == 0 then (if source == 0 then Some (ja_form w) else None)
    else if code == 8 then (if source == 0 then only_jmp w form.Call else None)
    else if code == 9 then (if source == 0 then only_jmp w form.Exit else None)
    else option_map (λ c. if source == 0 then form.JumpImm w c else form.JumpReg w c) (compare_at code)

-- sign-extending loads have no eight bytes (RFC 9669, section 5.2)
abbrev pub load_sx_form : Size → Option Form
load_sx_form Dw = None
load_sx_form s = Some (form.LoadSx s)

-- a load by its mode: 3 plain, 4 sign-extending (RFC 9669, section 5)
abbrev pub load_form : ℕ → Size → Option Form
load_form mode s = if mode == 3 then Some (form.Load s) else if mode == 4 then load_sx_form s else None

-- atomics are of four or eight bytes (RFC 9669, section 5.3)
abbrev pub atomic_form : Size → Option Form
atomic_form W = Some (form.Atomic W32)
atomic_form Dw = Some (form.Atomic W64)
atomic_form _ = None

-- a store of a register by its mode: 3 plain, 6 atomic (RFC 9669, section 5)
abbrev pub store_form : ℕ → Size → Option Form
store_form mode s = if mode == 3 then Some (form.Store s) else if mode == 6 then atomic_form s else None

-- the form that an opcode says by its class, if a form has it (RFC 9669, section 3)
abbrev pub form_at : ℕ → Option Form
form_at n =
    if n % 8 == 0 then (if n == 24 then Some form.LoadImm else None)
    else if n % 8 == 1 then load_form (n / 32) (size_at (n / 8 % 4))
    else if n % 8 == 2 then (if n / 32 == 3 then Some (form.StoreImm (size_at (n / 8 % 4))) else None)
    else if n % 8 == 3 then store_form (n / 32) (size_at (n / 8 % 4))
    else if n % 8 == 4 then alu_form W32 (n / 16) (n / 8 % 2)
    else if n % 8 == 5 then jump_form W64 (n / 16) (n / 8 % 2)
    else if n % 8 == 6 then jump_form W32 (n / 16) (n / 8 % 2)
    else alu_form W64 (n / 16) (n / 8 % 2)
