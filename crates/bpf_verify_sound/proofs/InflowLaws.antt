-- What flows to a slot is known before it.
use Rattle.std.proofs.Common.{◌≡◌, ℕ, zero, suc, ◌<◌, inl, inr, Bool, true, false, Option, Some, None, refl, subst}
use Rattle.std.{proofs.{Common.{arith}, lemmas.Bool.Decides.{nat_tests}}, specs.Prelude.{◌==◌}}
use Rattle.bpf_insn_types.specs.Program.{Program, insn_at}
use Rattle.bpf_verify_model.specs.declared.{state.State.{State}, outflow.{Edge.{Edge}, Outflow.{Outflow}}}
use Rattle.bpf_verify_model.specs.Inflow.{flow_from, joined_with, received, received_all, incoming, state_before}
use Rattle.bpf_step_model.specs.State.{Machine}
use Rattle.bpf_verify_sound.specs.{Containment.{Contained, ContainedIf}, Ways.{EdgeLeadsTo, FlowsTo}}
use Rattle.bpf_verify_sound.proofs.{JoinLaws.{states-first, states-second}, Tests.{if-either}}

joined_with-first : (before : Option State) (state : State) (m : Machine) → ContainedIf before m
    → ContainedIf (joined_with before state) m
joined_with-first None state m c = absurd c
joined_with-first (Some known) state m c = states-first known state m c

joined_with-second : (before : Option State) (state : State) (m : Machine) → Contained state m
    → ContainedIf (joined_with before state) m
joined_with-second None state m c = c
joined_with-second (Some known) state m c = states-second known state m c

-- one more edge in keeps the abstract state true
received-keeps : (slot : ℕ) (before : Option State) (edge : Option Edge) (m : Machine) → ContainedIf before m
    → ContainedIf (received slot before edge) m
received-keeps slot before None m c = c
received-keeps slot before (Some edge) m c = if-either (λ (o : Option State). ContainedIf o m) (edge.target == slot)
    (λ e. joined_with-first before edge.state m c) (λ e. c)

-- and a way that leads to the machine makes it known
received-brings : (before : Option State) (edge : Option Edge) (m : Machine) → EdgeLeadsTo edge m
    → ContainedIf (received m.slot before edge) m
received-brings before None m leads = absurd leads
received-brings before (Some edge) m leads =
    let here : edge.target ≡ m.slot = leads.0 in
    let test : (edge.target == m.slot) ≡ true = grind (arith, nat_tests) in
    rw test (joined_with-second before edge.state m leads.1)

received_all-keeps : (slot : ℕ) (before : Option State) (out : Outflow) (m : Machine) → ContainedIf before m
    → ContainedIf (received_all slot before out) m
received_all-keeps slot before out m c = received-keeps slot (received slot before out.ahead) out.aside m
    (received-keeps slot before out.ahead m c)

received_all-brings : (before : Option State) (out : Outflow) (m : Machine) → FlowsTo out m
    → ContainedIf (received_all m.slot before out) m
received_all-brings before out m (inl ahead) =
    received-keeps m.slot (received m.slot before out.ahead) out.aside m (received-brings before out.ahead m ahead)
received_all-brings before out m (inr aside) = received-brings (received m.slot before out.ahead) out.aside m aside

-- what flows from one of the first n slots is known by what flows from all of them
incoming-brings : (program : Program) (count from : ℕ) (m : Machine) → from < count →
    FlowsTo (flow_from program from (insn_at program.insns from) (state_before program from)) m
    → ContainedIf (incoming program count m.slot) m
unfolding incoming
incoming-brings program zero from m h flows = absurd (omega arith)
incoming-brings program (suc count) from m h flows = by_place (from == count) refl
    (incoming-brings program count from m)
  where
    out : ℕ → Outflow
    out slot = flow_from program slot (insn_at program.insns slot) (state_before program slot)

    by_place : (last : Bool) → (from == count) ≡ last
        → (from < count → FlowsTo (out from) m → ContainedIf (incoming program count m.slot) m)
        → ContainedIf (received_all m.slot (incoming program count m.slot) (out count)) m
    by_place true e go =
        let last : from ≡ count = grind (arith, nat_tests) in
        received_all-brings (incoming program count m.slot) (out count) m
        (subst (λ (slot : ℕ). FlowsTo (out slot) m) last flows)
    by_place false e go =
        let earlier : from < count = grind (arith, nat_tests) in
        received_all-keeps m.slot (incoming program count m.slot) (out count) m (go earlier flows)

-- so what flows from a slot to a machine at a later one is known before it
pub state_before-brings : (program : Program) (from : ℕ) (m : Machine) → from < m.slot →
    FlowsTo (flow_from program from (insn_at program.insns from) (state_before program from)) m
    → ContainedIf (state_before program m.slot) m
state_before-brings program from m later flows = incoming-brings program m.slot from m later flows
