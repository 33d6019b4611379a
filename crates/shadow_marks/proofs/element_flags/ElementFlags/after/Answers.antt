use Rattle.std.proofs.Common.{◌∙◌, ap, sym}
use Rattle.loop_core_model.specs.Flags.{flagged}
use Rattle.shadow_marks.specs.{declared.element_flags.Flag.TheVariants.{Wrote, By}, Kept.{flags_in, with_flag}}
use Rattle.shadow_marks.proofs.element_flags.ElementFlags.after.Goals as goal

pub returns-in-Reduce : goal.returns-in-Reduce
returns-in-Reduce c =
    c.with-in-Reduce-2.ensures
    ∙ ap (with_flag (By c.in-Reduce.op)) (c.with-in-Reduce.ensures ∙ ap (with_flag Wrote) c.look-in-Reduce.ensures)
    ∙ ap (flagged (flags_in c.args.self)) (sym c.in-Reduce.is)
