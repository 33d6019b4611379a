-- The edges between the slots of a program, up to its first fault.
use Rattle.std.specs.Prelude.{ℕ, zero, suc, ◌==◌, nat_lt, Bool, true, false, if◌then◌else◌, Option, Some, None, List}
use Rattle.bpf_insn_types.specs.{declared.insn.Insn.{Insn}, Program.{Program, insn_at, slot_count}}
use Rattle.bpf_verify_model.specs.declared.{state.State.{State}, outflow.{Edge.{Edge}, Outflow.{Outflow}}}
use Rattle.bpf_verify_model.specs.{Inflow.{no_edges, received_all, state_before}, Accepted.{BrokenRule, first_fault}}
use Rattle.bpf_verify.specs.Passing.{out_of}
use Rattle.bpf_verify_origin.specs.declared.inflow.Inflow.{Inflow, TheVariants.{Nowhere, One, Several}}

-- what flows from a slot, if an instruction starts there
abbrev pub flow_of : (sizes : List ℕ) → ℕ → Option Insn → Option State → Outflow
flow_of sizes slot None before = no_edges
flow_of sizes slot (Some insn) before = out_of sizes slot insn before

abbrev pub flow_at : Program → ℕ → Outflow
flow_at program slot = flow_of program.sizes slot (insn_at program.insns slot) (state_before program slot)

-- whether an edge leads to a slot
abbrev pub edge_leads : ℕ → Option Edge → Bool
edge_leads slot None = false
edge_leads slot (Some edge) = edge.target == slot

-- where edges come from, and one edge more from a slot, if it leads there
abbrev pub with_edge : Bool → ℕ → Inflow → Inflow
with_edge false from inflow = inflow
with_edge true from Nowhere = One from
with_edge true from (One other) = if other == from then One other else Several
with_edge true from Several = Several

-- the same with both edges out of a slot
abbrev pub with_edges : (slot from : ℕ) → Outflow → Inflow → Inflow
with_edges slot from out inflow =
    with_edge (edge_leads slot out.aside) from (with_edge (edge_leads slot out.ahead) from inflow)

-- where the edges into a slot come from, of those out of the first n slots
unfoldable pub inflow_from : Program → (count slot : ℕ) → Inflow
inflow_from program zero slot = Nowhere
inflow_from program (suc count) slot = with_edges slot count (flow_at program count) (inflow_from program count slot)

-- how many slots are before the first fault: all where there is none
abbrev pub slots_before : Option BrokenRule → ℕ → ℕ
slots_before None count = count
slots_before (Some fault) count = fault.slot

abbrev pub passed_slots : Program → ℕ
passed_slots program = slots_before (first_fault program) (slot_count program.insns)

-- what flows from a slot before the first fault
abbrev pub flow_passed : Program → ℕ → Outflow
flow_passed program slot = if nat_lt slot (passed_slots program) then flow_at program slot else no_edges

-- where the edges into a slot come from, of those out of the slots before the first fault
abbrev pub inflow : Program → ℕ → Inflow
inflow program slot = if nat_lt slot (slot_count program.insns) then inflow_from program (passed_slots program) slot
    else Nowhere

-- the abstract state on the edges from one slot to another: the join of both, where both lead there
abbrev pub state_between : Program → (from to : ℕ) → Option State
state_between program from to = received_all to None (flow_at program from)
