use Rattle.std.proofs.Common.{refl, rules, arith}
use Rattle.loop_core_gather.proofs.SharingLaws.{zip_next}
use Rattle.loop_core_gather.proofs.sharing.left_in_turn.Goals as goal

pub loop-number-preserved : goal.loop-number-preserved
loop-number-preserved c =
    zip_next c.args.gathered.now.words c.args.numbers.now c.loop-number.pages.items c.push.new.self.items
    c.loop-number.number-index _ c.left_page.result (omega arith) refl c.left_page.ensures (search rules)
    c.loop-number.invariant
