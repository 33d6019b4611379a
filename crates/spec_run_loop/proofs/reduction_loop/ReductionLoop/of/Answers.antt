use Rattle.std.proofs.Common.{ℕ, ◌<◌, sym, ap, ◌∙◌, subst, arith}
use Rattle.bpf_step.proofs.Limits.{few_slots}
use Rattle.spec_run_loop.{specs.SumLoops.{function_end}, proofs.{Callbacks.{is_sum_loop}, WholeOperators.{adds_up}}}
use Rattle.spec_run_loop.proofs.FunctionEnds.{end_within, end_after}
use Rattle.spec_run_loop.proofs.reduction_loop.ReductionLoop.of.Goals as goal

pub overflow_cast-ops : goal.overflow_cast-ops
overflow_cast-ops c =
    let few = few_slots c.args.program.now c.operations.ensures.accepted in
    let same = c.operations.ensures.ops.count in
    omega (arith, few, same)

pub sum_operator-requires-clause-slots : goal.sum_operator-requires-clause-slots
sum_operator-requires-clause-slots c =
    let few = few_slots c.args.program.now c.operations.ensures.accepted in
    let same = c.operations.ensures.ops.count in
    omega (arith, few, same)

pub sum_operator-requires-clause-within : goal.sum_operator-requires-clause-within
sum_operator-requires-clause-within c =
    let within = end_within c.args.program.now c.callback-start.result in
    let past = c.function_end-past.ensures in
    let same = c.operations.ensures.ops.count in
    omega (arith, within, past, same)

pub invariant_of-result : goal.invariant_of-result
invariant_of-result c =
    let program = c.args.program.now in
    let call = c.args.call.now in
    let after : c.callback-start.result < c.function_end-past.result =
    subst (λ (past : ℕ). c.callback-start.result < past) (sym c.function_end-past.ensures)
    (subst (λ (slot : ℕ). slot < function_end program slot) (sym c.callback-start.ensures)
    (end_after program call.callback c.requires.known.sound.callback)) in
    is_sum_loop c.law_of_sum_operations.ensures c.law_of_plain_iterations.ensures program
    (record { accepted = c.operations.ensures.accepted; fits = c.operations.ensures.fit })
    c.operations.result.0.now c.operations.ensures.ops call c.requires.known c.frame-frame.result.now
    c.frame-frame.ensures c.in_ok-op.op c.function_end-past.result c.callback-start.result c.callback-start.ensures
    after c.in_ok-op.ensures.sums

pub returns-clause-adds : goal.returns-clause-adds
returns-clause-adds c =
    let program = c.args.program.now in
    adds_up program c.args.call.now c.operations.result.0.now c.operations.ensures.ops c.in_ok-op.op
    c.callback-start.result c.function_end-past.result c.callback-start.ensures
    (c.function_end-past.ensures ∙ ap (function_end program) c.callback-start.ensures) c.in_ok-op.ensures.sums
