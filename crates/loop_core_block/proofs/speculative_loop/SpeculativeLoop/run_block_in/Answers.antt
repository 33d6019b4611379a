use Rattle.std.proofs.Common.{◌≡◌, ◌∙◌, sym, ap, arith}
use Rattle.bpf_step_model.specs.State.{LoopCall}
use Rattle.loop_core_model.specs.Split.{last_bound}
use Rattle.loop_core_block.{specs.Loops.{LoopOf}, proofs.SplitEnds.{ends_at}}
use Rattle.loop_core_block.proofs.speculative_loop.SpeculativeLoop.run_block_in.Goals as goal

pub run-requires-clause-rising : goal.run-requires-clause-rising
run-requires-clause-rising g c κs within =
    let order = c.start-first.ensures.order in
    let end = c.end-past.ensures.end in
    omega (arith, order, end)

pub run-requires-clause-within : goal.run-requires-clause-within
run-requires-clause-within g c κs within =
    let of = c.self.inside in
    let ends : last_bound 0 of.split.now ≡ of.call.now.n = ends_at of.split.now of.call.now.n c.self.invariant.split in
    let same = c.in_workspace-runner.ensures.call ∙ sym (ap (λ (l : LoopOf). l.call) c.self.view_is) in
    let n = ap (λ (call : LoopCall). call.n) same in
    let past = c.end-past.ensures.within in
    omega (arith, ends, n, past)

pub run-requires-clause-none : goal.run-requires-clause-none
run-requires-clause-none g c κs within = c.in_workspace-runner.ensures.none c.start-first.result
