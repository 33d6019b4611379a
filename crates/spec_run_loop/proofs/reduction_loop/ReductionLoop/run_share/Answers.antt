use Rattle.std.proofs.Common.{◌≤◌, List, ℕ, sym, ap, ◌∙◌, subst, arith}
use Rattle.array_maps.specs.MapList.{MapList, AreWords}
use Rattle.bpf_step.proofs.Limits.{iterations_end}
use Rattle.spec_run_loop.specs.{declared.partial_reduction.PartialReduction.{PartialReduction}, SumLoops.{SumLoopOf}}
use Rattle.spec_run_loop.{specs.Sums.{identity_maps, IsSumOf}, proofs.{Ranges.{ran_sum}, RoundLaws.{start_before}}}
use Rattle.spec_run_loop.proofs.reduction_loop.ReductionLoop.run_share.Goals as goal

pub range_in_order-sum-requires-clause-in_order : goal.range_in_order-sum-requires-clause-in_order
range_in_order-sum-requires-clause-in_order c =
    let first = c.start-from.ensures.start in
    let next = c.start-to.ensures.start in
    let up = start_before c.args.round.now c.args.share in
    omega (arith, first, next, up)

pub range_in_order-sum-requires-clause-within : goal.range_in_order-sum-requires-clause-within
range_in_order-sum-requires-clause-within c =
    let end = c.start-to.ensures.within in
    let within : c.args.round.now.to ≤ c.self.inside.call.now.n =
    subst (λ (l : SumLoopOf). c.args.round.now.to ≤ l.call.n) (sym c.self.view_is) c.requires.within in
    omega (arith, end, within)

pub range_in_order-sum-requires-clause-sizes : goal.range_in_order-sum-requires-clause-sizes
range_in_order-sum-requires-clause-sizes c =
    ap (λ (maps : MapList). maps.sizes) c.clear.ensures ∙ c.requires.fit
    ∙ ap (λ (l : SumLoopOf). l.program.sizes) (sym c.self.view_is)

pub returns : goal.returns
returns c =
    let of = c.self.inside in
    let within = c.requires.within in
    let end = c.start-to.ensures.within in
    let ran : PartialReduction = record { maps = c.range_in_order-sum.new.maps; broke = c.range_in_order-sum.result } in
    let summed : IsSumOf c.args.self.now c.start-from.result c.start-to.result ran =
    subst (λ (l : SumLoopOf). IsSumOf l c.start-from.result c.start-to.result ran) c.self.view_is
    (ran_sum (record { program = of.program.now; call = of.call.now; op = of.op }) c.self.invariant
    (iterations_end c.law_of_accepted_programs.ensures c.law_of_accepted_runs.ensures.counts of.program.now
    (record { accepted = c.unit-unit.ensures.accepted; fits = c.unit-unit.ensures.fit }))
    c.law_of_operators.ensures c.clear.new.maps ran
    (c.clear.ensures ∙ ap (λ (sizes : List ℕ). identity_maps of.op sizes)
    (c.requires.fit ∙ ap (λ (l : SumLoopOf). l.program.sizes) (sym c.self.view_is)))
    (subst AreWords c.words-words.ensures.words c.words-words.ensures.fit) c.start-from.result
    c.start-to.result (subst (λ (l : SumLoopOf). c.start-to.result ≤ l.call.n) (sym c.self.view_is)
    (omega (arith, end, within)))
    c.range_in_order-sum.ensures) in
    rw (c.start-from.ensures.start, c.start-to.ensures.start) at summed
