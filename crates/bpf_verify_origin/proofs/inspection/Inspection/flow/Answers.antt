use Rattle.std.proofs.Common.{◌≡◌, ◌<◌, ◌∙◌, arith}
use Rattle.bpf_verify_origin.specs.Edges.{passed_slots}
use Rattle.bpf_verify_origin.proofs.{FaultLaws.{passed-within}, FlowLaws.{passed-to, flow-none, flow-there, flow-holds}}
use Rattle.bpf_verify_origin.proofs.{InflowLaws.{flow-here}, RunLaws.{within-passed}}
use Rattle.bpf_verify_origin.proofs.inspection.Inspection.flow.Goals as goal

pub returns-then-slot-self-clause-is : goal.returns-then-slot-self-clause-is
returns-then-slot-self-clause-is c =
    let passed : passed_slots c.args.self.now ≡ c.self.inside.passed = rw c.self.view_is at c.self.invariant.passed_is in
    c.no_outflow.ensures ∙ flow-none c.args.self.now c.args.slot (omega (arith, passed, c.if-slot-self.true))

pub returns-then-slot-self-clause-runs : goal.returns-then-slot-self-clause-runs
returns-then-slot-self-clause-runs c =
    flow-holds c.args.self.now c.args.slot c.no_outflow.result c.holds.ensures.states
    (returns-then-slot-self-clause-is c)

pub outflow-requires : goal.outflow-requires
outflow-requires c =
    let passed : passed_slots c.args.self.now ≡ c.self.inside.passed = rw c.self.view_is at c.self.invariant.passed_is in
    let early : c.args.slot < passed_slots c.args.self.now = omega (arith, passed, c.if-slot-self.false) in
    let within = within-passed c.args.self.now (omega (arith, early)) in
    omega (arith, early, passed-within c.args.self.now, within.few)

pub returns-clause-is : goal.returns-clause-is
returns-clause-is c =
    let passed : passed_slots c.args.self.now ≡ c.self.inside.passed = rw c.self.view_is at c.self.invariant.passed_is in
    let early : c.args.slot < passed_slots c.args.self.now = omega (arith, passed, c.if-slot-self.false) in
    flow-there c.args.self.now c.args.slot c.outflow.result early
    ((rw c.sizes.ensures at c.outflow.ensures)
    ∙ flow-here c.args.self.now c.args.slot c.insn.result c.state.result c.insn.ensures
    (λ starts. c.state.ensures.whole (passed-to c.args.self.now c.args.slot early starts)))

pub returns-clause-runs : goal.returns-clause-runs
returns-clause-runs c =
    flow-holds c.args.self.now c.args.slot c.outflow.result c.holds.ensures.states (returns-clause-is c)
