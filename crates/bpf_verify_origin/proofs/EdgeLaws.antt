-- What is on the edges to a machine's slot contains the machine, and they count among those into the slot.
use Rattle.std.proofs.Common.{◌≡◌, ℕ, zero, suc, ◌<◌, inl, inr, Bool, true, false, Option, Some, None, refl, arith}
use Rattle.std.{specs.Prelude.{◌==◌}, proofs.lemmas.Bool.{cases_Bool, cases_eq, eq-eqb, ne_eqb, lt-ltb}}
use Rattle.bpf_insn_types.specs.Program.{Program, slot_count}
use Rattle.bpf_verify_model.specs.declared.{state.State.{State}, outflow.{Edge.{Edge}, Outflow.{Outflow}}}
use Rattle.bpf_verify_model.specs.Inflow.{joined_with, received, received_all}
use Rattle.bpf_step_model.specs.State.{Machine}
use Rattle.bpf_verify_sound.specs.{Containment.{Contained, ContainedIf}, Ways.{EdgeLeadsTo, FlowsTo}}
use Rattle.bpf_verify_sound.proofs.JoinLaws.{states-first, states-second}
use Rattle.bpf_verify_origin.specs.declared.inflow.Inflow.{Inflow, TheVariants.{Nowhere, One, Several}}
use Rattle.bpf_verify_origin.specs.Edges.{flow_at, edge_leads, with_edge, with_edges, inflow_from, passed_slots, inflow}

-- one more edge in keeps the abstract state true
joined_with-first : (before : Option State) (state : State) (m : Machine) → ContainedIf before m
    → ContainedIf (joined_with before state) m
joined_with-first None state m c = absurd c
joined_with-first (Some known) state m c = states-first known state m c

joined_with-second : (before : Option State) (state : State) (m : Machine) → Contained state m
    → ContainedIf (joined_with before state) m
joined_with-second None state m c = c
joined_with-second (Some known) state m c = states-second known state m c

received-keeps : (slot : ℕ) (before : Option State) (edge : Option Edge) (m : Machine) → ContainedIf before m
    → ContainedIf (received slot before edge) m
received-keeps slot before None m c = c
received-keeps slot before (Some edge) m c =
    elim (cases_Bool (edge.target == slot)) [
      | inl here ↦ rw here (joined_with-first before edge.state m c)
      | inr other ↦ rw other c
    ]

-- an edge that leads to the machine
leads-there : (edge : Option Edge) (m : Machine) → EdgeLeadsTo edge m → edge_leads m.slot edge ≡ true
leads-there None m leads = absurd leads
leads-there (Some edge) m leads = eq-eqb edge.target m.slot leads.0

received-brings : (before : Option State) (edge : Option Edge) (m : Machine) → EdgeLeadsTo edge m
    → ContainedIf (received m.slot before edge) m
received-brings before None m leads = absurd leads
received-brings before (Some edge) m leads =
    rw (eq-eqb edge.target m.slot leads.0) (joined_with-second before edge.state m leads.1)

pub received_all-brings : (before : Option State) (out : Outflow) (m : Machine) → FlowsTo out m
    → ContainedIf (received_all m.slot before out) m
received_all-brings before out m (inl ahead) =
    received-keeps m.slot (received m.slot before out.ahead) out.aside m (received-brings before out.ahead m ahead)
received_all-brings before out m (inr aside) = received-brings (received m.slot before out.ahead) out.aside m aside

-- a slot is among those from which edges come
abbrev pub Includes : ℕ → Inflow → Type 0
Includes from Nowhere = ⊥
Includes from (One other) = other ≡ from
Includes from Several = Unit {0}

with_edge-keeps : (leads : Bool) (other from : ℕ) (into : Inflow) → Includes from into
    → Includes from (with_edge leads other into)
with_edge-keeps false other from into i = i
with_edge-keeps true other from Nowhere i = absurd i
with_edge-keeps true other from (One first) i =
    elim (cases_Bool (first == other)) [ inl same ↦ rw same i | inr another ↦ rw another tt ]
with_edge-keeps true other from Several i = tt

with_edge-brings : (leads : Bool) (from : ℕ) (into : Inflow) → leads ≡ true → Includes from (with_edge leads from into)
with_edge-brings false from into is = absurd cc
with_edge-brings true from Nowhere is = refl
with_edge-brings true from (One first) is =
    elim (cases_eq first from) [
      | inl same ↦ rw (eq-eqb first from same) same
      | inr other ↦ rw (ne_eqb first from other) tt
    ]
with_edge-brings true from Several is = tt

with_edges-brings : (from : ℕ) (out : Outflow) (into : Inflow) (m : Machine) → FlowsTo out m
    → Includes from (with_edges m.slot from out into)
with_edges-brings from out into m (inl ahead) =
    with_edge-keeps (edge_leads m.slot out.aside) from from (with_edge (edge_leads m.slot out.ahead) from into)
    (with_edge-brings (edge_leads m.slot out.ahead) from into (leads-there out.ahead m ahead))
with_edges-brings from out into m (inr aside) =
    with_edge-brings (edge_leads m.slot out.aside) from (with_edge (edge_leads m.slot out.ahead) from into)
    (leads-there out.aside m aside)

inflow_from-brings : (program : Program) (count from : ℕ) (m : Machine) → from < count
    → FlowsTo (flow_at program from) m → Includes from (inflow_from program count m.slot)
unfolding inflow_from
inflow_from-brings program zero from m h flows = absurd (omega arith)
inflow_from-brings program (suc count) from m h flows =
    let out = flow_at program count in
    let into = inflow_from program count m.slot in
    elim (cases_eq from count) [
      | inl last ↦ rw last (with_edges-brings count out into m (rw last at flows))
      | inr other ↦
          with_edge-keeps (edge_leads m.slot out.aside) count from
          (with_edge (edge_leads m.slot out.ahead) count into)
          (with_edge-keeps (edge_leads m.slot out.ahead) count from into
          (inflow_from-brings program count from m (omega arith) flows))
    ]

-- a slot before the first fault from which an edge leads to the machine is among those
pub inflow-includes : (program : Program) (from : ℕ) (m : Machine) → from < passed_slots program
    → m.slot < slot_count program.insns → FlowsTo (flow_at program from) m → Includes from (inflow program m.slot)
inflow-includes program from m early inside flows =
    rw (lt-ltb m.slot (slot_count program.insns) inside)
    (inflow_from-brings program (passed_slots program) from m early flows)
