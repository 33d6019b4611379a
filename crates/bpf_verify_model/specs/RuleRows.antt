-- Worked states and rules, each by hand: what a join, a store, a comparison and a null check leave, and what is refused
-- at the end of a callback and past the end of what an access may reach.
use Rattle.std.specs.Prelude.{◌≡◌, ℕ, pos, negsuc, true, false, [], ◌∷◌, Some, None}
use Rattle.bpf_insn_types.specs.declared.insn.{Width.TheVariants.{W64}, Size.TheVariants.{W, Dw}}
use Rattle.bpf_insn_types.specs.declared.insn.{Compare.TheVariants.{Eq, Gt, Ne}, Operand.TheVariants.{Imm}}
use Rattle.bpf_insn_types.specs.declared.insn.Insn.TheVariants.{Jump, Exit, StoreImm}
use Rattle.value_range.specs.Spans.{exact, norm}
use Rattle.bpf_verify_model.specs.declared.abstract_value.AbstractValue.{AbstractValue, TheVariants.{AreaOrNull}}
use Rattle.bpf_verify_model.specs.declared.abstract_value.AbstractValue.TheVariants.{Unwritten, Number, Frame, Area}
use Rattle.bpf_verify_model.specs.{declared.{state.State.{State}, outflow.Outflow.{Outflow}}, Flow.{known_behind, flow}}
use Rattle.bpf_verify_model.specs.declared.rule.Rule.TheVariants.{AccessBounds, CallbackResult}
use Rattle.bpf_verify_model.specs.States.{known_register, with_known, joined_states, known_main_entry}
use Rattle.bpf_verify_model.specs.{Accesses.{has_unwritten_byte}, Rules.{state_fault, exit_fault}}

-- main as it starts, with an abstract value of R0
abbrev pub knowing : AbstractValue → State
knowing value = with_known known_main_entry 0 value

-- numbers from one to another
abbrev pub numbers : ℕ → ℕ → AbstractValue
numbers least most = Number (norm least most 0)

-- the abstract value of R0 in the join of two states
abbrev pub joined_r0 : State → State → AbstractValue
joined_r0 one other = known_register (joined_states one other) 0

-- a register has an abstract value in a join if it has one in each state
pub record JoinRows : Type 0 where
  pub both : joined_r0 (knowing (numbers 1 1)) (knowing (numbers 4 6)) ≡ numbers 1 6
  pub first_alone : joined_r0 (knowing (numbers 1 1)) known_main_entry ≡ Unwritten
  pub second_alone : joined_r0 known_main_entry (knowing (numbers 1 1)) ≡ Unwritten
  pub null_on_one : joined_r0 (knowing (Area 0 (exact 8))) (knowing (AreaOrNull 0 (exact 8))) ≡ AreaOrNull 0 (exact 8)

-- main after a store of four bytes at r10 - 8
abbrev pub stored : State
stored = known_behind [] 0 known_main_entry (StoreImm W 10 (negsuc 7) (pos 0))

-- those four are written, the one below and the one above aren't
pub record StoreRows : Type 0 where
  pub marked : has_unwritten_byte stored 4 (negsuc 7) (Frame 512) ≡ false
  pub below : has_unwritten_byte stored 1 (negsuc 8) (Frame 512) ≡ true
  pub above : has_unwritten_byte stored 1 (negsuc 3) (Frame 512) ≡ true

-- two edges out of slot 0: to the next slot, and by a jump of two slots
abbrev pub branch_edges : State → State → Outflow
branch_edges falls jumps = record {
  ahead = Some (record { target = 1; state = falls });
  aside = Some (record { target = 3; state = jumps });
}

-- if r0 > 7, of 0 to 15 and of 3 to 5; if r0 == 4
pub record EdgeRows : Type 0 where
  pub greater : flow [] 0 (knowing (numbers 0 15)) (Jump W64 Gt 0 (Imm (pos 7)) (pos 2)) ≡ branch_edges
      (knowing (numbers 0 7)) (knowing (numbers 8 15))
  pub never_greater : flow [] 0 (knowing (numbers 3 5)) (Jump W64 Gt 0 (Imm (pos 7)) (pos 2))
      ≡ record { ahead = Some (record { target = 1; state = knowing (numbers 3 5) }); aside = None }
  pub equal : flow [] 0 (knowing (numbers 4 15)) (Jump W64 Eq 0 (Imm (pos 4)) (pos 2)) ≡ branch_edges
      (knowing (numbers 5 15)) (knowing (numbers 4 4))

-- if r0 == 0 and if r0 != 0, of what a lookup answers
pub record NullRows : Type 0 where
  pub equal : flow [] 0 (knowing (AreaOrNull 0 (exact 8))) (Jump W64 Eq 0 (Imm (pos 0)) (pos 2)) ≡ branch_edges
      (knowing (Area 0 (exact 8))) (knowing (Number (exact 0)))
  pub unequal : flow [] 0 (knowing (AreaOrNull 0 (exact 8))) (Jump W64 Ne 0 (Imm (pos 0)) (pos 2)) ≡ branch_edges
      (knowing (Number (exact 0))) (knowing (Area 0 (exact 8)))

-- a callback's result is 0 or 1, main's any number
pub record EndRows : Type 0 where
  pub bit : exit_fault 1 (knowing (numbers 0 1)) Exit ≡ None
  pub two : exit_fault 1 (knowing (numbers 0 2)) Exit ≡ Some CallbackResult
  pub main : exit_fault 0 (knowing (numbers 0 2)) Exit ≡ None

-- stores of eight bytes: at r10 - 8, at r10, and at values 0 and 1 of a map that has one
pub record BoundRows : Type 0 where
  pub last_of_frame : state_fault [] known_main_entry (StoreImm Dw 10 (negsuc 7) (pos 0)) ≡ None
  pub past_frame : state_fault [] known_main_entry (StoreImm Dw 10 (pos 0) (pos 0)) ≡ Some AccessBounds
  pub last_of_map : state_fault (1 ∷ []) (knowing (Area 0 (exact 0))) (StoreImm Dw 0 (pos 0) (pos 0)) ≡ None
  pub past_map : state_fault (1 ∷ []) (knowing (Area 0 (exact 0))) (StoreImm Dw 0 (pos 8) (pos 0)) ≡ Some AccessBounds

-- all of them
pub record RuleRows : Type 0 where
  pub joins : JoinRows
  pub stores : StoreRows
  pub ways : EdgeRows
  pub null_checks : NullRows
  pub ends : EndRows
  pub bounds : BoundRows
