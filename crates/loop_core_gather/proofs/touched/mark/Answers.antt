use Rattle.std.proofs.{Common.{rules, refl, arith}, lemmas.Grind.{common_steps}}
use Rattle.loop_core_gather.proofs.TouchedLaws.{marked}
use Rattle.loop_core_gather.proofs.touched.mark.Goals as goal

pub returns-then-page-touched : goal.returns-then-page-touched
returns-then-page-touched c =
    marked c.args.touched.now c.args.page _ c.args.bit (omega arith) (first_of (search rules, grind (arith, common_steps)))
