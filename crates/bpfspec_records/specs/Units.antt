-- The records of a unit: its maps, and its instructions up to the first fault.
use Rattle.std.specs.Prelude.{ℕ, zero, suc, ℤ, pos, negsuc, ◌+◌, ◌+ℤ◌, ◌-ℤ◌, ◌==◌, ◌||◌, ◌&&◌, nat_le, Bool, true}
use Rattle.std.specs.Prelude.{false, if◌then◌else◌, List, [], ◌∷◌, ◌++◌, Option, Some, None, is_some, unwrap_or}
use Rattle.bpf_insn_types.specs.{declared.insn.Insn.{Insn, TheVariants.{Load, LoadSx, Atomic, Call}}, Slots.{slots_of}}
use Rattle.bpf_insn_types.specs.{Sizes.{bytes_of, atomic_bytes}, Program.{Program, insn_at}}
use Rattle.bpf_verify_model.specs.{Written.{all_written, none_written}, declared.helper.Helper.{Helper}}
use Rattle.bpf_verify_model.specs.declared.abstract_value.AbstractValue.{AbstractValue, TheVariants.{Frame, Ctx}}
use Rattle.bpf_verify_model.specs.declared.{helper.Helper.TheVariants.{Lookup}, rule.Rule.{Rule}, state.State.{State}}
use Rattle.bpf_verify_model.specs.declared.{rule.Rule.TheVariants.{UnwrittenByte}, outflow.Edge.{Edge}}
use Rattle.bpf_verify_model.specs.{declared.outflow.Outflow.{Outflow}, Accepted.{BrokenRule, first_fault, is_too_large}}
use Rattle.bpf_verify_model.specs.{Helpers.{helper_called}, Inflow.{received_all, state_before}, Values.{is_unwritten}}
use Rattle.bpf_verify_model.specs.States.{known_register}
use Rattle.bpf_verify_origin.specs.declared.inflow.Inflow.{Inflow, TheVariants.{Several}}
use Rattle.bpf_verify_origin.specs.{Edges.{flow_passed, inflow}, Inspected.{is_up_to}, Sources.{source_before}}
use Rattle.bpfspec_records.specs.declared.records.{FrameOf.{FrameOf, TheVariants.{Own, Main}}, Record.{Record}}
use Rattle.bpfspec_records.specs.{declared.unwritten.MemoryRead.{MemoryRead}, Operands.{reads_register}}
use Rattle.bpfspec_records.specs.declared.records.Record.TheVariants.{Map, Insn as InsnRecord, Value, Read, Unwritten}

-- maps, the first of which has this number
abbrev pub map_records : ℕ → List ℕ → List Record
map_records map [] = []
map_records map (elements ∷ sizes) = Map map elements ∷ map_records (map + 1) sizes

-- of the numbers below n the records of each, 0 first
unfoldable pub each_below : (ℕ → List Record) → ℕ → List Record
each_below records zero = []
each_below records (suc n) = each_below records n ++ records n

-- a register's value before a slot, or on the edges from there to another, unless it is unwritten
abbrev pub value_record : (slot : ℕ) → (to : Option ℕ) → (register : ℕ) → AbstractValue → List Record
value_record slot to register value =
    if is_unwritten value then [] else Value slot to register value ∷ []

-- what R0 to R9 may have
abbrev pub value_records : (slot : ℕ) → (to : Option ℕ) → State → List Record
value_records slot to state =
    each_below (λ register. value_record slot to register (known_register state register)) 10

-- where a register's value comes from, if the instruction at a slot reads it
abbrev pub read_record : Program → (slot : ℕ) → Insn → (register : ℕ) → List Record
read_record program slot insn register =
    if reads_register insn register then Read slot register (source_before program slot register) ∷ [] else []

abbrev pub read_records : Program → (slot : ℕ) → Insn → List Record
read_records program slot insn = each_below (read_record program slot insn) 11

-- whether edges come from several slots
abbrev pub is_several : Inflow → Bool
is_several Several = true
is_several _ = false

-- whether a slot up to the first fault is one to which edges from several slots lead
abbrev pub is_join : Program → ℕ → Bool
is_join program slot = is_several (inflow program slot) && is_up_to (first_fault program) slot

-- the slot to which an edge leads, if it is followed
abbrev pub target_of : Option Edge → Option ℕ
target_of None = None
target_of (Some edge) = Some edge.target

-- the target of a second edge, unless it is that of the first
abbrev pub other_target : Option ℕ → Option ℕ → Option ℕ
other_target (Some to) (Some other) = if to == other then None else Some other
other_target first other = other

-- the values on edges from a slot to another, if they are followed
abbrev pub state_records : (slot to : ℕ) → Option State → List Record
state_records slot to None = []
state_records slot to (Some state) = value_records slot (Some to) state

-- of what flows from a slot the values on the edges to another, if that is a join: those of both edges, joined, where
-- both lead there
abbrev pub edge_records : Program → (slot : ℕ) → Outflow → (to : Option ℕ) → List Record
edge_records program slot out None = []
edge_records program slot out (Some to) =
    if is_join program to then state_records slot to (received_all to None out) else []

-- the same to each slot to which an edge leads
abbrev pub edges_records : Program → (slot : ℕ) → Outflow → List Record
edges_records program slot out = edge_records program slot out (target_of out.ahead)
    ++ edge_records program slot out (other_target (target_of out.ahead) (target_of out.aside))

-- what is known at a slot, if it is reached, where this flows from it
abbrev pub known_records : Program → (slot : ℕ) → Insn → Outflow → Option State → List Record
known_records program slot insn out None = []
known_records program slot insn out (Some state) = value_records slot None state ++ read_records program slot insn
    ++ edges_records program slot out

-- the abstract state before a slot up to the first fault; where a program is over the limits nothing is known
abbrev pub known_before : Program → ℕ → Option State
known_before program slot = if is_too_large program then None else state_before program slot

-- an instruction, whether it is reached, and where its edges lead, nowhere from the first fault on; and what is known
-- there if it is asked for
abbrev pub slot_records : (with_values : Bool) → Program → ℕ → Insn → List Record
slot_records with_values program slot insn = InsnRecord slot insn (is_some (known_before program slot))
    (target_of (flow_passed program slot).ahead) (target_of (flow_passed program slot).aside) ∷
    (if with_values then known_records program slot insn (flow_passed program slot) (known_before program slot) else [])

-- instructions, the first of which is at a slot, up to the first fault
abbrev pub insn_records : (with_values : Bool) → Program → ℕ → List Insn → List Record
insn_records with_values program slot [] = []
insn_records with_values program slot (insn ∷ insns) =
    if is_up_to (first_fault program) slot
    then slot_records with_values program slot insn ++ insn_records with_values program (slot + slots_of insn) insns
    else []

-- the key that a lookup reads: 4 bytes at R2
abbrev pub key_read : Option Helper → Option MemoryRead
key_read (Some Lookup) = Some (record { base = 2; offset = pos 0; size = 4 })
key_read _ = None

-- the read of memory that an instruction makes, if it makes one
abbrev pub memory_read : Insn → Option MemoryRead
memory_read (Load size dst src offset) = Some (record { base = src; offset = offset; size = bytes_of size })
memory_read (LoadSx size dst src offset) = Some (record { base = src; offset = offset; size = bytes_of size })
memory_read (Atomic width op dst src offset) = Some (record { base = dst; offset = offset; size = atomic_bytes width })
memory_read (Call callee imm) = key_read (helper_called callee imm)
memory_read _ = None

-- a byte of a frame, unless it is written
abbrev pub byte_record : (slot : ℕ) → FrameOf → List Bool → (position : ℕ) → List Record
byte_record slot frame written position =
    if all_written written position 1 then [] else Unwritten slot frame (pos position -ℤ pos 512) ∷ []

-- of n bytes from a position on those that aren't written
abbrev pub byte_records : (slot : ℕ) → FrameOf → List Bool → (position size : ℕ) → List Record
byte_records slot frame written position size =
    each_below (λ at. byte_record slot frame written (position + at)) size

-- the same from a place on, if all n bytes are in the frame
abbrev pub place_records : (slot : ℕ) → FrameOf → List Bool → (size : ℕ) → (place : ℤ) → List Record
place_records slot frame written size (pos position) =
    if nat_le (position + size) 512 then byte_records slot frame written position size else []
place_records slot frame written size (negsuc _) = []

-- the bytes that a read at this base has and that aren't written
abbrev pub base_records : (slot : ℕ) → State → (offset : ℤ) → (size : ℕ) → AbstractValue → List Record
base_records slot state offset size (Frame position) =
    place_records slot Own state.own size (pos position +ℤ offset)
base_records slot state offset size (Ctx position) =
    place_records slot Main (unwrap_or state.caller none_written) size (pos position +ℤ offset)
base_records slot state offset size _ = []

abbrev pub unread_records : (slot : ℕ) → State → Option MemoryRead → List Record
unread_records slot state None = []
unread_records slot state (Some read) =
    base_records slot state read.offset read.size (known_register state read.base)

-- the same of the instruction at a slot, if it is reached
abbrev pub unwritten_at : (slot : ℕ) → Option Insn → Option State → List Record
unwritten_at slot (Some insn) (Some state) = unread_records slot state (memory_read insn)
unwritten_at slot _ _ = []

-- whether a rule is V20
abbrev pub is_of_bytes : Rule → Bool
is_of_bytes UnwrittenByte = true
is_of_bytes _ = false

-- the unwritten bytes that the first fault is about, if it is one of V20
abbrev pub unwritten_records : Program → Option BrokenRule → List Record
unwritten_records program None = []
unwritten_records program (Some fault) = if is_of_bytes fault.rule
    then unwritten_at fault.slot (insn_at program.insns fault.slot) (known_before program fault.slot) else []

-- the records of a unit; values are with them where it is refused, or where the states are asked for
abbrev pub unit_records : (states : Bool) → Program → List Record
unit_records states program = map_records 0 program.sizes
    ++ insn_records (states || is_some (first_fault program)) program 0 program.insns
    ++ unwritten_records program (first_fault program)
