use Rattle.std.proofs.Common.{◌≡◌, true, false, None, refl, sym, ◌∙◌, arith}
use Rattle.bpf_verify_origin.specs.Edges.{passed_slots}
use Rattle.bpf_verify_origin.proofs.{FaultLaws.{passed-up_to}, InspectionLaws.{state-there}, PassedLaws.{state-passed}}
use Rattle.bpf_verify_origin.proofs.RunLaws.{holds-before}
use Rattle.bpf_verify_origin.proofs.inspection.Inspection.state.Goals as goal

pub returns-in_default-clause-whole : goal.returns-in_default-clause-whole
returns-in_default-clause-whole c = λ to.
    absurd (let starts : true ≡ false = sym to.starts ∙ rw (sym c.insn.ensures ∙ c.in_default.is) refl in cc)

pub returns-then-slot-self-clause-whole : goal.returns-then-slot-self-clause-whole
returns-then-slot-self-clause-whole c = λ to.
    let passed : passed_slots c.args.self.now ≡ c.self.inside.passed = rw c.self.view_is at c.self.invariant.passed_is in
    absurd (omega (arith, passed-up_to c.args.self.now c.args.slot to, passed, c.if-slot-self.true))

pub returns-clause-whole : goal.returns-clause-whole
returns-clause-whole c =
    rw c.self.view_is at (state-there c.self.inside.unit c.self.inside.states.items c.args.slot c.state_in.result
    c.self.invariant.states_are (rw c.as_slice.ensures.value at c.state_in.ensures))

pub returns-clause-passed : goal.returns-clause-passed
returns-clause-passed c =
    rw c.self.view_is at (state-passed c.self.inside.unit c.self.inside.states.items c.args.slot c.state_in.result
    c.self.invariant.within c.self.invariant.states_are (rw c.as_slice.ensures.value at c.state_in.ensures)
    (rw (c.self.view_is, sym c.insn.ensures ∙ c.in-Some.is) refl)
    (omega (arith, c.self.invariant.passed_is, c.if-slot-self.false)))

pub returns-in_default-clause-runs : goal.returns-in_default-clause-runs
returns-in_default-clause-runs c = λ to.
    holds-before c.args.self.now c.args.slot None c.holds.ensures.states to (returns-in_default-clause-whole c to)

pub returns-then-slot-self-clause-runs : goal.returns-then-slot-self-clause-runs
returns-then-slot-self-clause-runs c = λ to.
    holds-before c.args.self.now c.args.slot None c.holds.ensures.states to
    (returns-then-slot-self-clause-whole c to)

pub returns-clause-runs : goal.returns-clause-runs
returns-clause-runs c = λ to.
    holds-before c.args.self.now c.args.slot c.state_in.result c.holds.ensures.states to (returns-clause-whole c to)
