use Rattle.std.proofs.Common.{ℕ, ◌+◌, ◌<◌, ◌≤◌, ◌∙◌, subst, arith}
use Rattle.spec_run_loop.proofs.FunctionEnds.{next_start, last_end, one_more}
use Rattle.spec_run_loop.proofs.function_end.function_end.Goals as goal

pub returns-then-slot-next : goal.returns-then-slot-next
returns-then-slot-next c =
    let count = c.callbacks-function-end.ensures in
    let test = c.loop-function-test.true in
    c.start-next.ensures
    ∙ next_start c.args.program.now c.args.slot c.loop-function.function c.loop-function.auto.function
    (omega (arith, count, test)) c.loop-function.invariant
    (subst (λ (start : ℕ). c.args.slot < start) c.start-next.ensures c.if-slot-next.true)

pub returns-else-slot-next : goal.returns-else-slot-next
returns-else-slot-next c =
    let count = c.callbacks-function-end.ensures in
    c.requires
    ∙ last_end c.args.program.now c.args.slot (c.loop-function.function + 1)
    (omega (arith, count))
    (one_more c.args.program.now c.args.slot c.loop-function.function c.loop-function.auto.function
    c.loop-function.invariant
    (subst (λ (start : ℕ). start ≤ c.args.slot) c.start-next.ensures c.if-slot-next.false))
