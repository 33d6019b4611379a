-- What flows from a slot to later ones.
use Rattle.std.specs.Prelude.{ℕ, ℤ, pos, negsuc, ◌+◌, ◌+ℤ◌, ◌-◌, ◌*◌, ◌^◌, ◌==◌, Bool, nat_le, if◌then◌else◌, min, max}
use Rattle.std.specs.{Prelude.{List, slice_get, slice_set, Option, Some, None}, Int.{cast_unsigned, w32}}
use Rattle.bpf_insn_types.specs.declared.insn.{Width.{Width, TheVariants.{W32, W64}}, Size.{Size}, Compare.{Compare}}
use Rattle.bpf_insn_types.specs.declared.insn.{AluOp.TheVariants.{Mov}, Compare.TheVariants.{Eq}, AtomicOp.{AtomicOp}}
use Rattle.bpf_insn_types.specs.declared.insn.{AtomicOp.TheVariants.{Fetch, Xchg, Cmpxchg}, Operand.{Operand}}
use Rattle.bpf_insn_types.specs.declared.insn.{Operand.TheVariants.{Imm, Reg}, ImmKind.{ImmKind}, Insn.{Insn}}
use Rattle.bpf_insn_types.specs.declared.insn.ImmKind.TheVariants.{Number as NumberKind, Code as CodeKind}
use Rattle.bpf_insn_types.specs.{declared.insn.ImmKind.TheVariants.{Map as MapKind, MapValue}, Slots.{slots_of}}
use Rattle.bpf_insn_types.specs.declared.insn.Insn.TheVariants.{Alu, Neg, Movsx, Endian, Ja, Ja32, Jump, Call, Exit}
use Rattle.bpf_insn_types.specs.declared.insn.Insn.TheVariants.{Load, LoadSx, StoreImm, Store, Atomic, LoadImm}
use Rattle.bpf_insn_types.specs.{Words.{word_of}, Program.{moved, code_target}, Sizes.{bytes_of}}
use Rattle.value_range.specs.{Spans.{Span, exact, top, norm}, declared.condition.Condition.TheVariants.{Holds}}
use Rattle.value_range.specs.declared.operation.Operation.TheVariants.{Alu as AluOperation, Neg as NegOperation}
use Rattle.value_range.specs.{declared.operation.Operation.TheVariants.{Movsx as MovsxOperation}, AluRows.{span_of}}
use Rattle.value_range.specs.declared.operation.Operation.TheVariants.{Endian as EndianOperation}
use Rattle.value_range.specs.RefineRows.{refined, opposite}
use Rattle.bpf_verify_model.specs.declared.{abstract_value.AbstractValue.{AbstractValue}, helper.Helper.{Helper}}
use Rattle.bpf_verify_model.specs.declared.abstract_value.AbstractValue.TheVariants.{Unwritten, Number, Frame, Ctx, Map}
use Rattle.bpf_verify_model.specs.declared.abstract_value.AbstractValue.TheVariants.{Area, AreaOrNull, Code}
use Rattle.bpf_verify_model.specs.declared.{helper.Helper.TheVariants.{Lookup, Loop}, state.State.{State}}
use Rattle.bpf_verify_model.specs.declared.outflow.{Edge.{Edge}, Outflow.{Outflow}, BranchStates.{BranchStates}}
use Rattle.bpf_verify_model.specs.{Written.{none_written, written_from}, Helpers.{helper_called}}
use Rattle.bpf_verify_model.specs.States.{known_register, with_known, starting_registers}
use Rattle.bpf_verify_model.specs.Values.{known_operand, known_of_number, known_result}

-- a register gets what is given, if anything is
abbrev pub with_known_result : State → ℕ → Option AbstractValue → State
with_known_result state r None = state
with_known_result state r (Some value) = with_known state r value

-- a number of n bytes
abbrev pub number_of_size : Size → AbstractValue
number_of_size size = Number (norm 0 (256 ^ bytes_of size - 1) 0)

-- a state with these bytes of the own frame written
abbrev pub with_own : State → List Bool → State
with_own state own = record { registers = state.registers; own = own; caller = state.caller }

-- a state with n bytes of the frame written from a position on, where they are within it
abbrev pub with_written : State → ℕ → ℤ → State
with_written state size (pos position) =
    if nat_le (position + size) 512 then with_own state (written_from state.own position size) else state
with_written state size (negsuc _) = state

-- a store to the frame marks its bytes
abbrev pub with_store : State → ℕ → ℤ → AbstractValue → State
with_store state size offset (Frame position) = with_written state size (pos position +ℤ offset)
with_store state size offset _ = state

-- an atomic operation puts the old number into the source register where it fetches or exchanges, and into R0 where
-- it compares (RFC 9669, section 5.3)
abbrev pub with_fetched : State → Width → AtomicOp → ℕ → State
with_fetched state width (Fetch op) src = with_known state src (Number (top width))
with_fetched state width Xchg src = with_known state src (Number (top width))
with_fetched state width Cmpxchg src = with_known state 0 (Number (top width))
with_fetched state width _ src = state

-- the callback that a slot is the start of
abbrev pub known_code : Option ℕ → AbstractValue
known_code None = Unwritten
known_code (Some start) = Code start

-- what a two-slot load puts into its register
abbrev pub known_wide : ℕ → ImmKind → ℤ → ℤ → AbstractValue
known_wide slot NumberKind imm next_imm = Number (exact (cast_unsigned w32 imm + 2 ^ 32 * cast_unsigned w32 next_imm))
known_wide slot CodeKind imm next_imm = known_code (code_target CodeKind slot imm)
known_wide slot MapKind imm next_imm = Map (cast_unsigned w32 imm)
known_wide slot MapValue imm next_imm = Area (cast_unsigned w32 imm) (exact (cast_unsigned w32 next_imm))
known_wide slot _ imm next_imm = Unwritten

-- after a call R0 has the answer, and R1 to R5 are unwritten
abbrev pub forgets : List AbstractValue → ℕ → List AbstractValue
forgets registers r = slice_set registers r Unwritten

abbrev pub known_after_call : State → AbstractValue → State
known_after_call state answer = record {
  registers = forgets (forgets (forgets (forgets (forgets (slice_set state.registers 0 answer) 1) 2) 3) 4) 5;
  own = state.own;
  caller = state.caller;
}

-- a lookup answers the address of one of a map's values, or 0
abbrev pub address_in : ℕ → Option ℕ → AbstractValue
address_in map None = Unwritten
address_in map (Some count) = AreaOrNull map (norm 0 (8 * count - 8) 3)

abbrev pub known_lookup : List ℕ → AbstractValue → AbstractValue
known_lookup sizes (Map map) = address_in map (slice_get sizes map)
known_lookup sizes _ = Unwritten

-- what a helper answers
abbrev pub known_answer : List ℕ → State → Option Helper → AbstractValue
known_answer sizes state (Some Lookup) = known_lookup sizes (known_register state 1)
known_answer sizes state (Some Loop) = Number (top W64)
known_answer sizes state None = Unwritten

-- the abstract state after an instruction that doesn't jump
unfoldable pub known_behind : List ℕ → ℕ → State → Insn → State
known_behind sizes slot state (Alu width op dst operand) =
    with_known_result state dst (known_result width op (known_register state dst) (known_operand state operand))
known_behind sizes slot state (Neg width dst) =
    with_known_result state dst (known_of_number NegOperation width (known_register state dst))
known_behind sizes slot state (Movsx width bits dst src) =
    with_known_result state dst (known_of_number (MovsxOperation bits) width (known_register state src))
known_behind sizes slot state (Endian order bits dst) =
    with_known_result state dst (known_of_number (EndianOperation order bits) W64 (known_register state dst))
known_behind sizes slot state (Load size dst src offset) = with_known state dst (number_of_size size)
known_behind sizes slot state (LoadSx size dst src offset) = with_known state dst (Number (top W64))
known_behind sizes slot state (StoreImm size dst offset imm) =
    with_store state (bytes_of size) offset (known_register state dst)
known_behind sizes slot state (Store size dst src offset) =
    with_store state (bytes_of size) offset (known_register state dst)
known_behind sizes slot state (Atomic width op dst src offset) = with_fetched state width op src
known_behind sizes slot state (LoadImm kind dst imm next_imm) = with_known state dst (known_wide slot kind imm next_imm)
known_behind sizes slot state (Call callee imm) =
    known_after_call state (known_answer sizes state (helper_called callee imm))
known_behind sizes slot state _ = state

-- an edge to a slot, if it is followed
abbrev pub edge_to : Option ℕ → Option State → Option Edge
edge_to (Some target) (Some state) = Some (record { target = target; state = state })
edge_to _ _ = None

-- the number that a comparison's second operand is: an immediate is sign-extended at 64 bits, and has its 32 bits
-- at 32 bits
abbrev pub compared_imm : Width → ℤ → ℕ
compared_imm W64 imm = word_of imm
compared_imm W32 imm = cast_unsigned w32 imm

-- what a comparison's second register is known to be, if it is a number
abbrev pub with_operand_number : State → Operand → Span → State
with_operand_number state (Imm imm) b = state
with_operand_number state (Reg r) b = with_known state r (Number b)

-- the abstract state where a comparison's operands are refined, if a pair of their numbers is left
abbrev pub refines : State → ℕ → Operand → Option (Span × Span) → Option State
refines state dst operand None = None
refines state dst operand (Some pair) = Some (with_operand_number (with_known state dst (Number pair.0)) operand pair.1)

-- both are followed with nothing more known
abbrev pub unrefined_branch : State → BranchStates
unrefined_branch state = record { holds = Some state; fails = Some state }

-- a comparison of two numbers
abbrev pub number_branch : State → Width → Compare → ℕ → Operand → Span → Span → BranchStates
number_branch state width compare dst operand a b = record {
  holds = refines state dst operand (refined (Holds compare) width a b);
  fails = refines state dst operand (refined (opposite compare) width a b);
}

-- a register with itself refines nothing
abbrev pub register_branch : State → Width → Compare → ℕ → ℕ → Span → AbstractValue → BranchStates
register_branch state width compare dst r a (Number b) =
    if dst == r then unrefined_branch state else number_branch state width compare dst (Reg r) a b
register_branch state width compare dst r a _ = unrefined_branch state

abbrev pub operand_branch : State → Width → Compare → ℕ → Operand → Span → BranchStates
operand_branch state width compare dst (Imm imm) a = number_branch state width compare dst (Imm imm) a
    (exact (compared_imm width imm))
operand_branch state width compare dst (Reg r) a = register_branch state width compare dst r a (known_register state r)

-- the null check: null where it is equal, and an address where it isn't
abbrev pub null_check_branch : State → Compare → ℕ → ℕ → Span → BranchStates
null_check_branch state Eq dst map offset = record {
  holds = Some (with_known state dst (Number (exact 0)));
  fails = Some (with_known state dst (Area map offset));
}
null_check_branch state compare dst map offset = record {
  holds = Some (with_known state dst (Area map offset));
  fails = Some (with_known state dst (Number (exact 0)));
}

-- both edges of a comparison, by what its first register has
abbrev pub branch_states : State → Width → Compare → ℕ → Operand → AbstractValue → BranchStates
branch_states state width compare dst operand (Number a) = operand_branch state width compare dst operand a
branch_states state width compare dst operand (AreaOrNull map offset) = null_check_branch state compare dst map offset
branch_states state width compare dst operand _ = unrefined_branch state

-- the edges out of a comparison
abbrev pub branch_outflow : ℕ → ℤ → BranchStates → Outflow
branch_outflow slot offset ways = record {
  ahead = edge_to (Some (slot + 1)) ways.fails;
  aside = edge_to (moved (slot + 1) offset) ways.holds;
}

-- a jump's one edge
abbrev pub jump_outflow : ℕ → ℤ → State → Outflow
jump_outflow slot distance state = record { ahead = None; aside = edge_to (moved (slot + 1) distance) (Some state) }

-- the edge to the next slot
abbrev pub ahead_outflow : ℕ → State → Outflow
ahead_outflow slot state = record { ahead = edge_to (Some slot) (Some state); aside = None }

-- a callback's index is below a number of iterations: one of 32 bits, at least 1 and at most 8,388,608
abbrev pub most_iterations : Span → ℕ
most_iterations number = max (min (span_of (AluOperation Mov) W32 number number).hi 8388608) 1

abbrev pub known_index : AbstractValue → AbstractValue
known_index (Number number) = Number (norm 0 (most_iterations number - 1) 0)
known_index _ = Unwritten

-- a callback's ctx: an address of main's frame, or 0
abbrev pub known_ctx : AbstractValue → AbstractValue
known_ctx (Frame position) = Ctx position
known_ctx (Number number) = Number (exact 0)
known_ctx _ = Unwritten

-- a callback as it starts: the index in R1, ctx in R2, a fresh frame, and main's as at the call
unfoldable pub known_callback_entry : State → State
known_callback_entry state = record {
  registers = slice_set (starting_registers (known_index (known_register state 1))) 2
      (known_ctx (known_register state 3));
  own = none_written;
  caller = Some state.own;
}

-- the edge to a loop's callback
abbrev pub enters : State → AbstractValue → Option Edge
enters state (Code start) = Some (record { target = start; state = known_callback_entry state })
enters state _ = None

abbrev pub calls_back : State → Option Helper → Option Edge
calls_back state (Some Loop) = enters state (known_register state 2)
calls_back state _ = None

-- the edges out of an instruction at a slot
unfoldable pub flow : List ℕ → ℕ → State → Insn → Outflow
flow sizes slot state (Ja offset) = jump_outflow slot offset state
flow sizes slot state (Ja32 imm) = jump_outflow slot imm state
flow sizes slot state (Jump width compare dst operand offset) =
    branch_outflow slot offset (branch_states state width compare dst operand (known_register state dst))
flow sizes slot state Exit = record { ahead = None; aside = None }
flow sizes slot state (Call callee imm) =
    record {
      ahead = edge_to (Some (slot + 1)) (Some (known_behind sizes slot state (Call callee imm)));
      aside = calls_back state (helper_called callee imm);
    }
flow sizes slot state insn = ahead_outflow (slot + slots_of insn) (known_behind sizes slot state insn)
