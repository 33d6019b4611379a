-- The registers that an instruction reads.
use Rattle.std.specs.Prelude.{ℕ, ◌==◌, ◌&&◌, ◌||◌, nat_le, Bool, false, Option, Some, None}
use Rattle.bpf_insn_types.specs.declared.insn.{AluOp.TheVariants.{Mov}, Operand.{Operand}}
use Rattle.bpf_insn_types.specs.declared.insn.{AtomicOp.TheVariants.{Cmpxchg}, Operand.TheVariants.{Imm, Reg}}
use Rattle.bpf_insn_types.specs.declared.insn.Insn.{Insn, TheVariants.{StoreImm, Store, Atomic}}
use Rattle.bpf_insn_types.specs.declared.insn.Insn.TheVariants.{Alu, Neg, Movsx, Endian, Jump, Call, Exit, Load, LoadSx}
use Rattle.bpf_verify_model.specs.{declared.helper.Helper.{Helper, TheVariants.{Lookup, Loop}}, Helpers.{helper_called}}

-- whether an operand is a register of this number
abbrev pub is_operand : Operand → (reg : ℕ) → Bool
is_operand (Imm imm) reg = false
is_operand (Reg src) reg = src == reg

-- how many arguments a helper has, from R1 on
abbrev pub argument_count : Option Helper → ℕ
argument_count (Some Lookup) = 2
argument_count (Some Loop) = 4
argument_count None = 0

-- whether an instruction reads a register: a move reads its second operand alone, and an atomic operation that compares
-- reads R0 too
abbrev pub reads_register : Insn → (reg : ℕ) → Bool
reads_register (Alu width Mov dst operand) reg = is_operand operand reg
reads_register (Alu width op dst operand) reg = (dst == reg) || is_operand operand reg
reads_register (Neg width dst) reg = dst == reg
reads_register (Movsx width bits dst src) reg = src == reg
reads_register (Endian order bits dst) reg = dst == reg
reads_register (Jump width compare dst operand offset) reg = (dst == reg) || is_operand operand reg
reads_register (Call callee imm) reg = nat_le 1 reg && nat_le reg (argument_count (helper_called callee imm))
reads_register Exit reg = reg == 0
reads_register (Load size dst src offset) reg = src == reg
reads_register (LoadSx size dst src offset) reg = src == reg
reads_register (StoreImm size dst offset imm) reg = dst == reg
reads_register (Store size dst src offset) reg = (dst == reg) || (src == reg)
reads_register (Atomic width Cmpxchg dst src offset) reg = (dst == reg) || (src == reg) || (reg == 0)
reads_register (Atomic width op dst src offset) reg = (dst == reg) || (src == reg)
reads_register _ reg = false
