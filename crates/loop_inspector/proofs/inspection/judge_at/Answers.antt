use Rattle.std.proofs.Common.{ap, ◌∙◌}
use Rattle.loop_core_model.specs.Report.{judged}
use Rattle.loop_inspector.proofs.Bits.{elements_kept}
use Rattle.loop_inspector.proofs.inspection.judge_at.Goals as goal

pub returns : goal.returns
returns c =
    c.judge.ensures ∙ ap judged (elements_kept c.args.others.now c.args.plane.now c.keep_bits.new.plane
    c.keep_bits.ensures)
