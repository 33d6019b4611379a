use Rattle.std.{proofs.Common.{◌-◌, ◌<◌}, specs.Prelude.{All}}
use Rattle.loop_core_sequential.specs.Rests.{RanOn}
use Rattle.spec_run_loop.specs.Sums.{IsSumFor}
use Rattle.spec_run_loop.proofs.summing.in_rounds.Given as goal

abbrev pub invariant-loop-from : goal.invariant-loop-from
invariant-loop-from g l = record {
  some : l.from < l.n → 0 < l.from;
  fit : All (IsSumFor l.of) l.sums;
  ran : RanOn l.of.program l.of.call 0 l.from l.fn.maps l.maps;
}

abbrev pub decreases-loop-from : goal.decreases-loop-from
decreases-loop-from g l = l.n - l.from
