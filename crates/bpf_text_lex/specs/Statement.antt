-- An instruction as a mnemonic and operands.
use Rattle.std.specs.{Prelude.{ℕ, ℤ, ◌+◌, ◌*◌, ◌^◌}, Int.{w32, cast_unsigned}}
use Rattle.bpf_insn_types.specs.declared.insn.{Operand.{Operand}, ImmKind.{ImmKind}, Insn.{Insn}}
use Rattle.bpf_insn_types.specs.declared.insn.Operand.TheVariants as operand
use Rattle.bpf_insn_types.specs.declared.insn.ImmKind.TheVariants as kind
use Rattle.bpf_insn_types.specs.declared.insn.Insn.TheVariants as insn
use Rattle.bpf_text_lex.specs.declared.{mnemonic.Mnemonic.{Mnemonic}, value.{Value.{Value}, Operands.{Operands}}}
use Rattle.bpf_text_lex.specs.declared.value.Operands.TheVariants.{Zero, One, Two, Three}
use Rattle.bpf_text_lex.specs.declared.mnemonic.Mnemonic.TheVariants as mnemonic
use Rattle.bpf_text_lex.specs.declared.value.Value.TheVariants as value

-- the mnemonic of an instruction
abbrev pub mnemonic_of : Insn → Mnemonic
mnemonic_of (insn.Alu w o dst src) = mnemonic.Alu w o
mnemonic_of (insn.Neg w dst) = mnemonic.Neg w
mnemonic_of (insn.Movsx w bits dst src) = mnemonic.Movsx w bits
mnemonic_of (insn.Endian order bits dst) = mnemonic.Endian order bits
mnemonic_of (insn.Ja offset) = mnemonic.Ja
mnemonic_of (insn.Ja32 imm) = mnemonic.Ja32
mnemonic_of (insn.Jump w c dst src offset) = mnemonic.Jump w c
mnemonic_of (insn.Call callee imm) = mnemonic.Call callee
mnemonic_of insn.Exit = mnemonic.Exit
mnemonic_of (insn.Load s dst src offset) = mnemonic.Load s
mnemonic_of (insn.LoadSx s dst src offset) = mnemonic.LoadSx s
mnemonic_of (insn.StoreImm s dst offset imm) = mnemonic.StoreImm s
mnemonic_of (insn.Store s dst src offset) = mnemonic.Store s
mnemonic_of (insn.Atomic w o dst src offset) = mnemonic.Atomic w o
mnemonic_of (insn.LoadImm k dst imm next) = mnemonic.LoadImm k

-- an immediate or a register
abbrev pub printed_operand : Operand → Value
printed_operand (operand.Imm imm) = value.Imm imm
printed_operand (operand.Reg src) = value.Reg src

-- the number of 64 bits whose lower and upper half these are
abbrev pub wide : ℤ → ℤ → ℕ
wide imm next = cast_unsigned w32 imm + 2 ^ 32 * cast_unsigned w32 next

-- the operands of a two-slot load; a kind without a second number has one number
abbrev pub two_slot_operands : ImmKind → ℕ → ℤ → ℤ → Operands
two_slot_operands kind.Number dst imm next = Two (value.Reg dst) (value.Wide (wide imm next))
two_slot_operands kind.MapFd dst imm next = Two (value.Reg dst) (value.Imm imm)
two_slot_operands kind.MapFdValue dst imm next = Three (value.Reg dst) (value.Imm imm) (value.Imm next)
two_slot_operands kind.Variable dst imm next = Two (value.Reg dst) (value.Imm imm)
two_slot_operands kind.Code dst imm next = Two (value.Reg dst) (value.FarDistance imm)
two_slot_operands kind.Map dst imm next = Two (value.Reg dst) (value.Imm imm)
two_slot_operands kind.MapValue dst imm next = Three (value.Reg dst) (value.Imm imm) (value.Imm next)

-- the operands of an instruction
abbrev pub operands_of : Insn → Operands
operands_of (insn.Alu w o dst src) = Two (value.Reg dst) (printed_operand src)
operands_of (insn.Neg w dst) = One (value.Reg dst)
operands_of (insn.Movsx w bits dst src) = Two (value.Reg dst) (value.Reg src)
operands_of (insn.Endian order bits dst) = One (value.Reg dst)
operands_of (insn.Ja offset) = One (value.Distance offset)
operands_of (insn.Ja32 imm) = One (value.FarDistance imm)
operands_of (insn.Jump w c dst src offset) = Three (value.Reg dst) (printed_operand src) (value.Distance offset)
operands_of (insn.Call callee imm) = One (value.Imm imm)
operands_of insn.Exit = Zero
operands_of (insn.Load s dst src offset) = Two (value.Reg dst) (value.Address src offset)
operands_of (insn.LoadSx s dst src offset) = Two (value.Reg dst) (value.Address src offset)
operands_of (insn.StoreImm s dst offset imm) = Two (value.Address dst offset) (value.Imm imm)
operands_of (insn.Store s dst src offset) = Two (value.Address dst offset) (value.Reg src)
operands_of (insn.Atomic w o dst src offset) = Two (value.Address dst offset) (value.Reg src)
operands_of (insn.LoadImm k dst imm next) = two_slot_operands k dst imm next
