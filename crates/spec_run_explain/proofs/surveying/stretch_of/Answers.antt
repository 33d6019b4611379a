use Rattle.std.{proofs.Common.{false, sym, ap, ◌∙◌}, specs.Prelude.{is_some}}
use Rattle.loop_core_model.specs.declared.loop_test.Test.TheVariants.{Lrpd}
use Rattle.loop_core_block.specs.Shown.{shown}
use Rattle.spec_run_explain.proofs.SurveyLaws.{is_stretch}
use Rattle.spec_run_explain.proofs.surveying.stretch_of.Goals as goal

pub returns : goal.returns
returns c =
    is_stretch Lrpd c.args.program.now c.args.call.now c.args.start.now.words (shown c.in_ok-block.block)
    (record { first = c.first.result; past = c.past.result; planes = c.take_planes.result }) c.in_ok-block.ensures.ran
    (ap is_some (sym c.broke.ensures) ∙ sym c.is_some.ensures ∙ c.if-is_some.false) c.first.ensures c.past.ensures
    c.take_planes.ensures.planes
