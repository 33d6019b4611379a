use Rattle.std.{proofs.Common.{◌-◌}, specs.List.{All}}
use Rattle.loop_core_witness.specs.Surveys.{IsStretch}
use Rattle.spec_run_explain.proofs.surveying.survey_loop.Given as goal

abbrev pub invariant-loop-first : goal.invariant-loop-first
invariant-loop-first l = record {
  each : All (IsStretch l.program l.call l.start.words) l.stretches.items;
}

abbrev pub decreases-loop-first : goal.decreases-loop-first
decreases-loop-first l = l.past - l.first
