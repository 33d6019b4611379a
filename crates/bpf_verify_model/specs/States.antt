-- The abstract state of registers and frames before a slot.
use Rattle.std.specs.Prelude.{ℕ, ◌==◌, Bool, if◌then◌else◌, List, map, replicate, slice_index_or, slice_set, zip}
use Rattle.std.specs.Prelude.{Option, Some, None}
use Rattle.bpf_insn_types.specs.declared.insn.Width.TheVariants.{W64}
use Rattle.value_range.specs.Spans.{top, join}
use Rattle.bpf_verify_model.specs.{Written.{none_written, joined_written}, declared.state.State.{State}}
use Rattle.bpf_verify_model.specs.declared.abstract_value.AbstractValue.{AbstractValue}
use Rattle.bpf_verify_model.specs.declared.abstract_value.AbstractValue.TheVariants.{Unwritten, Number, Frame, Ctx, Map}
use Rattle.bpf_verify_model.specs.declared.abstract_value.AbstractValue.TheVariants.{Area, AreaOrNull, Code}

-- the abstract value of a register
abbrev pub known_register : State → ℕ → AbstractValue
known_register state r = slice_index_or state.registers r Unwritten

-- a state with another abstract value of a register
abbrev pub with_known : State → ℕ → AbstractValue → State
with_known state r value = record {
  registers = slice_set state.registers r value;
  own = state.own;
  caller = state.caller;
}

-- the join of two abstract values: kinds that are equal with equal constants or maps stay, ranges are joined, an
-- address that may be null makes one that may be null, and all else is unwritten
abbrev pub joined_values : AbstractValue → AbstractValue → AbstractValue
joined_values (Number a) (Number b) = Number (join a b)
joined_values (Frame p) (Frame q) = if p == q then Frame p else Unwritten
joined_values (Ctx p) (Ctx q) = if p == q then Ctx p else Unwritten
joined_values (Map m) (Map n) = if m == n then Map m else Unwritten
joined_values (Area m a) (Area n b) = if m == n then Area m (join a b) else Unwritten
joined_values (Area m a) (AreaOrNull n b) = if m == n then AreaOrNull m (join a b) else Unwritten
joined_values (AreaOrNull m a) (Area n b) = if m == n then AreaOrNull m (join a b) else Unwritten
joined_values (AreaOrNull m a) (AreaOrNull n b) = if m == n then AreaOrNull m (join a b) else Unwritten
joined_values (Code s) (Code t) = if s == t then Code s else Unwritten
joined_values _ _ = Unwritten

-- the join of each register's abstract values
abbrev pub joined_registers : List AbstractValue → List AbstractValue → List AbstractValue
joined_registers xs ys = map (λ (pair : AbstractValue × AbstractValue). joined_values pair.0 pair.1) (zip xs ys)

-- the written bytes of main's frame, in a callback
abbrev pub joined_callers : Option (List Bool) → Option (List Bool) → Option (List Bool)
joined_callers (Some xs) (Some ys) = Some (joined_written xs ys)
joined_callers _ _ = None

-- the join of two abstract states
unfoldable pub joined_states : State → State → State
joined_states a b = record {
  registers = joined_registers a.registers b.registers;
  own = joined_written a.own b.own;
  caller = joined_callers a.caller b.caller;
}

-- no register is written but R1 and R10, the frame pointer
abbrev pub starting_registers : AbstractValue → List AbstractValue
starting_registers argument = slice_set (slice_set (replicate 11 Unwritten) 1 argument) 10 (Frame 512)

-- main as it starts: its argument is any number
unfoldable pub known_main_entry : State
known_main_entry = record { registers = starting_registers (Number (top W64)); own = none_written; caller = None }
