use Rattle.std.proofs.Common.{subst}
use Rattle.bpf_step.proofs.Limits.{iterations_end}
use Rattle.spec_run_loop.{specs.SumLoops.{AlwaysPasses}, proofs.SumPassing.{passes}}
use Rattle.spec_run_loop.proofs.reduction_loop.ReductionLoop.law_of_passing.Goals as goal

pub returns : goal.returns
returns c =
    let of = c.self.inside in
    subst AlwaysPasses c.self.view_is
    (passes (record { program = of.program.now; call = of.call.now; op = of.op }) c.self.invariant
    (iterations_end c.law_of_accepted_programs.ensures c.law_of_accepted_runs.ensures.counts of.program.now
    (record { accepted = c.unit-unit.ensures.accepted; fits = c.unit-unit.ensures.fit })))
