-- The abstract state before each slot.
use Rattle.std.specs.Prelude.{ℕ, zero, suc, ◌==◌, if◌then◌else◌, Option, Some, None}
use Rattle.bpf_insn_types.specs.{declared.insn.Insn.{Insn}, Program.{Program, insn_at}}
use Rattle.bpf_verify_model.specs.{declared.{rule.Rule.{Rule}, state.State.{State}, outflow.Edge.{Edge}}, Flow.{flow}}
use Rattle.bpf_verify_model.specs.{declared.outflow.Outflow.{Outflow}, States.{joined_states, known_main_entry}}
use Rattle.bpf_verify_model.specs.Rules.{fault_of}

-- nothing flows from a slot
abbrev pub no_edges : Outflow
no_edges = record { ahead = None; aside = None }

-- a slot that breaks a rule lets nothing flow
abbrev pub flow_unless : Option Rule → Outflow → Outflow
flow_unless None out = out
flow_unless (Some rule) out = no_edges

-- what flows from an instruction, by the abstract state before it
abbrev pub flow_if_reached : Program → ℕ → Insn → Option State → Outflow
flow_if_reached program slot insn None = no_edges
flow_if_reached program slot insn (Some state) =
    flow_unless (fault_of program slot insn (Some state)) (flow program.sizes slot state insn)

-- what flows from a slot where an instruction starts
abbrev pub flow_from : Program → ℕ → Option Insn → Option State → Outflow
flow_from program slot None before = no_edges
flow_from program slot (Some insn) before = flow_if_reached program slot insn before

-- the join with the state of one more edge, if one came before
abbrev pub joined_with : Option State → State → Option State
joined_with None state = Some state
joined_with (Some before) state = Some (joined_states before state)

-- before a slot, with the state of one more edge where it leads there
abbrev pub received : ℕ → Option State → Option Edge → Option State
received slot before None = before
received slot before (Some edge) = if edge.target == slot then joined_with before edge.state else before

-- before a slot, with all that flows from another
abbrev pub received_all : ℕ → Option State → Outflow → Option State
received_all slot before out = received slot (received slot before out.ahead) out.aside

-- the abstract state before a slot where nothing came yet: main starts at slot 0
abbrev pub entry : ℕ → Option State
entry zero = Some known_main_entry
entry (suc _) = None

-- the abstract state before a slot by what flows from the first n slots: the join of all of it
unfoldable pub incoming : Program → (count slot : ℕ) → Option State
incoming program zero slot = entry slot
incoming program (suc count) slot =
    received_all slot (incoming program count slot)
    (flow_from program count (insn_at program.insns count) (incoming program count count))

-- the abstract state before a slot, by what flows from the earlier slots; none where nothing flows
abbrev pub state_before : Program → ℕ → Option State
state_before program slot = incoming program slot slot
