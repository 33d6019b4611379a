-- Registers and operands of a machine of which something is known.
use Rattle.bpf_insn_types.specs.{Values.{OperandFits}, Words.{word_of}, declared.insn.Operand.{Operand}}
use Rattle.bpf_insn_types.specs.declared.insn.Operand.TheVariants.{Imm, Reg}
use Rattle.bpf_step_model.specs.{State.{Value, Unwritten, Word, Machine, register}, Values.{operand_value}}
use Rattle.bpf_verify_model.specs.{States.{known_register, with_known}, Values.{known_operand, is_number_value}}
use Rattle.bpf_verify_model.specs.declared.{abstract_value.AbstractValue.{AbstractValue}, state.State.{State}}
use Rattle.bpf_verify_sound.proofs.RegisterLaws.{contain-set, contain-at, all-at}
use Rattle.bpf_verify_sound.specs.{Containment.{ContainsValue, Contained}, KnownStates.{HasSpan, IsWellFormedState}}
use Rattle.std.proofs.{Common.{◌≡◌, true, refl, ℕ, ◌<◌, ◌^◌, arith}, lemmas.{Int.{ints}, List.{set-get_or}}}
use Rattle.std.specs.{Int.{w32}, Prelude.{ℤ, FitsSigned}}
use Rattle.value_range.proofs.SpanLaws.{exact-span, exact-contains}
use Rattle.bpf_verify_model.specs.declared.abstract_value.AbstractValue.TheVariants as known

-- the abstract value of a register contains it, and has a span
pub register-known : (state : State) (m : Machine) (r : ℕ) → Contained state m → ContainsValue (known_register state r)
    (register m r)
register-known state m r c = contain-at state.registers m.registers r c.registers

pub register-span : (state : State) (r : ℕ) → IsWellFormedState state → HasSpan (known_register state r)
register-span state r spans = all-at HasSpan state.registers r known.Unwritten spans.spans tt

-- a number is a word
pub number-word_of : (x : AbstractValue) (v : Value) → is_number_value x ≡ true → ContainsValue x v → (n : ℕ)
    × (v ≡ Word n)
number-word_of (known.Number a) (Word n) e c = (n, refl)
number-word_of (known.Number a) v e c = absurd c
number-word_of x v e c = absurd cc

-- an immediate is a word
pub word-fits : (z : ℤ) → FitsSigned w32 z → word_of z < 2 ^ 64
word-fits z fits = omega (arith, ints)

-- the abstract value of an operand
pub operand-known : (state : State) (m : Machine) (operand : Operand) → Contained state m
    → ContainsValue (known_operand state operand) (operand_value m operand)
operand-known state m (Imm imm) c = exact-contains (word_of imm)
operand-known state m (Reg r) c = register-known state m r c

pub operand-has_span : (state : State) (operand : Operand) → OperandFits operand → IsWellFormedState state
    → HasSpan (known_operand state operand)
operand-has_span state (Imm imm) fits spans = exact-span (word_of imm) (word-fits imm fits)
operand-has_span state (Reg r) fits spans = register-span state r spans

-- more is known of a register
pub learnt : (state : State) (m : Machine) (r : ℕ) (x : AbstractValue) → Contained state m
    → ContainsValue x (register m r) → Contained (with_known state r x) m
learnt state m r x c d = record {
  registers = rw (set-get_or m.registers r Unwritten) at (contain-set state.registers m.registers r x (register m r)
      c.registers d);
  own = c.own;
  caller = c.caller;
}
