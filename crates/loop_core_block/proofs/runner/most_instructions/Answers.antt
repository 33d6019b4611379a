use Rattle.std.proofs.{Common.{◌≡◌, inl, inr, sym, ◌∙◌, arith}, lemmas.Bool.{cases_eq, cases_lt}}
use Rattle.bpf_step.proofs.Limits.{few_steps}
use Rattle.loop_core_block.proofs.MostLaws.{count_is}
use Rattle.loop_core_block.proofs.runner.most_instructions.Goals as goal

pub returns-then-start-slot-clause-enough : goal.returns-then-start-slot-clause-enough
returns-then-start-slot-clause-enough c =
    let same = count_is c.args.program.now c.loop-function.function c.args.slot (sym c.start.ensures
    ∙ c.if-start-slot.true) in
    omega (arith, same, c.count.ensures)

pub returns-then-start-slot-clause-few : goal.returns-then-start-slot-clause-few
returns-then-start-slot-clause-few c =
    let same = count_is c.args.program.now c.loop-function.function c.args.slot (sym c.start.ensures
    ∙ c.if-start-slot.true) in
    omega (arith, same, c.count.ensures, few_steps c.args.program.now c.args.slot c.unit-unit.ensures.accepted)

pub returns-else-start-slot-clause-enough : goal.returns-else-start-slot-clause-enough
returns-else-start-slot-clause-enough c = few_steps c.args.program.now c.args.slot c.unit-unit.ensures.accepted

pub returns-clause-enough : goal.returns-clause-enough
returns-clause-enough c = few_steps c.args.program.now c.args.slot c.unit-unit.ensures.accepted

pub loop-function-preserved : goal.loop-function-preserved
loop-function-preserved c = λ k some below there. elim (cases_eq k c.loop-function.function) [
  | inl same ↦ c.if-start-slot.false (c.start.ensures ∙ rw same at there)
  | inr other ↦ c.loop-function.invariant k some (omega arith) there
]

pub returns-then-start-slot-clause-count : goal.returns-then-start-slot-clause-count
returns-then-start-slot-clause-count c = λ function some within there.
    c.count.ensures
    ∙ sym (count_is c.args.program.now c.loop-function.function c.args.slot (sym c.start.ensures
    ∙ c.if-start-slot.true)) ∙ count_is c.args.program.now function c.args.slot there

pub returns-else-start-slot-clause-count : goal.returns-else-start-slot-clause-count
returns-else-start-slot-clause-count c = λ function some within there.
    let count = c.callbacks-function-end.ensures in
    absurd (elim (cases_lt function c.loop-function.function) [
      | inl early ↦ c.loop-function.invariant function some early there
      | inr late ↦
          let same : function ≡ c.loop-function.function = omega arith in
          c.if-start-slot.false (c.start.ensures ∙ rw same at there)
    ])

pub returns-clause-count : goal.returns-clause-count
returns-clause-count c = λ function some within there.
    let count = c.callbacks-function-end.ensures in
    absurd (omega arith)
