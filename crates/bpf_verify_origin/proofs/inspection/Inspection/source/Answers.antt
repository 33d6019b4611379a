use Rattle.std.proofs.Common.{◌≡◌, ℕ, refl, sym, ap, ◌∙◌, arith}
use Rattle.bpf_verify_origin.specs.declared.inflow.Inflow.TheVariants.{Nowhere, One, Several}
use Rattle.bpf_verify_origin.specs.Sources.{source_before}
use Rattle.bpf_verify_origin.proofs.SourceLaws.{among-early, among-past, source-first, source-later, source-holds}
use Rattle.bpf_verify_origin.proofs.inspection.Inspection.source.Goals as goal

pub returns-in-Nowhere-clause-is : goal.returns-in-Nowhere-clause-is
returns-in-Nowhere-clause-is c =
    let program = c.args.self.now in
    let k = c.loop-at.at in
    let reg = c.args.reg in
    sym (c.loop-at.invariant ∙ source-later program k reg Nowhere (omega (arith, c.loop-at-test.true))
    (sym c.in-Nowhere.is ∙ c.inflow.ensures))

pub returns-in-Nowhere-clause-runs : goal.returns-in-Nowhere-clause-runs
returns-in-Nowhere-clause-runs c =
    source-holds c.args.self.now c.args.slot c.args.reg _ c.holds.ensures.sources (returns-in-Nowhere-clause-is c)

pub returns-in-Several-clause-is : goal.returns-in-Several-clause-is
returns-in-Several-clause-is c =
    let program = c.args.self.now in
    let k = c.loop-at.at in
    let reg = c.args.reg in
    sym (c.loop-at.invariant ∙ source-later program k reg Several (omega (arith, c.loop-at-test.true))
    (sym c.in-Several.is ∙ c.inflow.ensures))

pub returns-in-Several-clause-runs : goal.returns-in-Several-clause-runs
returns-in-Several-clause-runs c =
    source-holds c.args.self.now c.args.slot c.args.reg _ c.holds.ensures.sources (returns-in-Several-clause-is c)

pub returns-in_default-clause-is : goal.returns-in_default-clause-is
returns-in_default-clause-is c =
    let program = c.args.self.now in
    let k = c.loop-at.at in
    let reg = c.args.reg in
    let from = c.in-One.from in
    let here = sym c.in-One.is ∙ c.inflow.ensures in
    let back = c.loop-at.invariant ∙ source-later program k reg (One from) (omega (arith, c.loop-at-test.true)) here in
    sym (back ∙ rw (sym c.insn.ensures ∙ c.in_default.is) refl)

pub returns-in_default-clause-runs : goal.returns-in_default-clause-runs
returns-in_default-clause-runs c =
    source-holds c.args.self.now c.args.slot c.args.reg _ c.holds.ensures.sources (returns-in_default-clause-is c)

pub returns-in-Some-source_at-clause-is : goal.returns-in-Some-source_at-clause-is
returns-in-Some-source_at-clause-is c =
    let program = c.args.self.now in
    let k = c.loop-at.at in
    let reg = c.args.reg in
    let from = c.in-One.from in
    let here = sym c.in-One.is ∙ c.inflow.ensures in
    let back = c.loop-at.invariant ∙ source-later program k reg (One from) (omega (arith, c.loop-at-test.true)) here in
    sym (back ∙ rw (sym c.insn.ensures ∙ c.in-Some.is, sym c.source_at.ensures ∙ c.in-Some-source_at.is) refl)

pub returns-in-Some-source_at-clause-runs : goal.returns-in-Some-source_at-clause-runs
returns-in-Some-source_at-clause-runs c =
    source-holds c.args.self.now c.args.slot c.args.reg _ c.holds.ensures.sources (returns-in-Some-source_at-clause-is c)

pub returns-then-from-at-clause-is : goal.returns-then-from-at-clause-is
returns-then-from-at-clause-is c =
    let program = c.args.self.now in
    let k = c.loop-at.at in
    let reg = c.args.reg in
    let from = c.in-One.from in
    let here = sym c.in-One.is ∙ c.inflow.ensures in
    let back = c.loop-at.invariant ∙ source-later program k reg (One from) (omega (arith, c.loop-at-test.true)) here in
    sym (back ∙ rw (sym c.insn.ensures ∙ c.in-Some.is, sym c.source_at.ensures ∙ c.in_default-source_at.is)
    (among-past program k from reg (omega (arith, c.if-from-at.true))))

pub returns-then-from-at-clause-runs : goal.returns-then-from-at-clause-runs
returns-then-from-at-clause-runs c =
    source-holds c.args.self.now c.args.slot c.args.reg _ c.holds.ensures.sources (returns-then-from-at-clause-is c)

pub loop-at-preserved : goal.loop-at-preserved
loop-at-preserved c =
    let program = c.args.self.now in
    let k = c.loop-at.at in
    let reg = c.args.reg in
    let from = c.in-One.from in
    let here = sym c.in-One.is ∙ c.inflow.ensures in
    let back = c.loop-at.invariant ∙ source-later program k reg (One from) (omega (arith, c.loop-at-test.true)) here in
    back ∙ rw (sym c.insn.ensures ∙ c.in-Some.is, sym c.source_at.ensures ∙ c.in_default-source_at.is)
    (among-early program k from reg (omega (arith, c.if-from-at.false)))

pub returns-clause-is : goal.returns-clause-is
returns-clause-is c =
    let first : c.loop-at.at ≡ 0 = omega (arith, c.loop-at-test.false) in
    sym (c.loop-at.invariant ∙ ap (λ (slot : ℕ). source_before c.args.self.now slot c.args.reg) first
    ∙ source-first c.args.self.now c.args.reg)

pub returns-clause-runs : goal.returns-clause-runs
returns-clause-runs c =
    source-holds c.args.self.now c.args.slot c.args.reg _ c.holds.ensures.sources (returns-clause-is c)
