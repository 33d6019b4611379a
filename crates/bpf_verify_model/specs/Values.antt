-- What operators and comparisons give on the abstract values of registers.
use Rattle.std.specs.{Option.{option_map}, Prelude.{None}}
use Rattle.std.specs.Prelude.{ℕ, zero, pos, ◌+◌, Bool, true, false, ◌&&◌, ◌==◌, nat_le, if◌then◌else◌, Option, Some}
use Rattle.bpf_insn_types.specs.declared.insn.{Width.{Width, TheVariants.{W32, W64}}, AluOp.{AluOp}, Compare.{Compare}}
use Rattle.bpf_insn_types.specs.declared.insn.{AluOp.TheVariants.{Add, Sub, Mov}, Compare.TheVariants.{Eq, Ne}}
use Rattle.bpf_insn_types.specs.{declared.insn.Operand.{Operand, TheVariants.{Imm, Reg}}, Words.{word_of, alu}}
use Rattle.value_range.specs.{Spans.{Span, exact}, declared.operation.Operation.{Operation}, AluRows.{span_of}}
use Rattle.value_range.specs.declared.operation.Operation.TheVariants.{Alu as AluOperation}
use Rattle.bpf_verify_model.specs.declared.abstract_value.AbstractValue.{AbstractValue, TheVariants.{Area, AreaOrNull}}
use Rattle.bpf_verify_model.specs.declared.abstract_value.AbstractValue.TheVariants.{Unwritten, Number, Frame, Ctx}
use Rattle.bpf_verify_model.specs.{declared.state.State.{State}, States.{known_register}}

-- the abstract value of an operand: an immediate is sign-extended
abbrev pub known_operand : State → Operand → AbstractValue
known_operand state (Imm imm) = Number (exact (word_of imm))
known_operand state (Reg r) = known_register state r

-- an operation on one number
abbrev pub known_of_number : Operation → Width → AbstractValue → Option AbstractValue
known_of_number operation width (Number a) = Some (Number (span_of operation width a a))
known_of_number operation width _ = None

-- an operator on two numbers
abbrev pub known_of_numbers : Width → AluOp → AbstractValue → AbstractValue → Option AbstractValue
known_of_numbers width op (Number a) (Number b) = Some (Number (span_of (AluOperation op) width a b))
known_of_numbers width op _ _ = None

-- a move of 64 bits copies any value that is written; one of 32 bits takes a number
abbrev pub known_copy : Width → AbstractValue → Option AbstractValue
known_copy W64 Unwritten = None
known_copy W64 value = Some value
known_copy W32 value = known_of_number (AluOperation Mov) W32 value

-- the position that a known number leads to from another, added or taken away: it stays within a frame and its end
abbrev pub known_position : AluOp → ℕ → Span → Option ℕ
known_position op position n =
    if (n.lo == n.hi) && nat_le (alu W64 op position n.lo) 512 then Some (alu W64 op position n.lo) else None

-- an area address keeps an offset of at most 524,288
abbrev pub known_area : ℕ → Span → Span → Option AbstractValue
known_area map offset n =
    if nat_le (offset.hi + n.hi) 524288 then Some (Area map (span_of (AluOperation Add) W64 offset n)) else None

-- a number added or taken away at 64 bits: a known one moves a frame or ctx address by its signed value, and one that
-- is added an area address up
abbrev pub known_moved : AluOp → AbstractValue → Span → Option AbstractValue
known_moved op (Number a) n = Some (Number (span_of (AluOperation op) W64 a n))
known_moved op (Frame position) n = option_map Frame (known_position op position n)
known_moved op (Ctx position) n = option_map Ctx (known_position op position n)
known_moved Add (Area map offset) n = known_area map offset n
known_moved op _ n = None

-- a sum or a difference
abbrev pub known_sum : Width → AluOp → AbstractValue → AbstractValue → Option AbstractValue
known_sum W64 op a (Number n) = known_moved op a n
known_sum W64 op a _ = None
known_sum W32 op a b = known_of_numbers W32 op a b

-- what an operator gives, if its operands are of kinds that it takes
abbrev pub known_result : Width → AluOp → AbstractValue → AbstractValue → Option AbstractValue
known_result width Mov a b = known_copy width b
known_result width Add a b = known_sum width Add a b
known_result width Sub a b = known_sum width Sub a b
known_result width op a b = known_of_numbers width op a b

-- whether it is a number
abbrev pub is_number_value : AbstractValue → Bool
is_number_value (Number a) = true
is_number_value _ = false

-- whether it can't be read: nothing was written, or not on each edge
abbrev pub is_unwritten : AbstractValue → Bool
is_unwritten Unwritten = true
is_unwritten _ = false

-- whether a comparison is the null check of an address that may be null
abbrev pub is_null_check : Width → Compare → Operand → Bool
is_null_check W64 Eq (Imm (pos zero)) = true
is_null_check W64 Ne (Imm (pos zero)) = true
is_null_check _ _ _ = false

-- whether a comparison takes what a register has
abbrev pub compares : State → Width → Compare → Operand → AbstractValue → Bool
compares state width compare operand (Number a) = is_number_value (known_operand state operand)
compares state width compare operand (AreaOrNull map offset) = is_null_check width compare operand
compares state width compare operand _ = false
