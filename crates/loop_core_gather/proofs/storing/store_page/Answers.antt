use Rattle.std.proofs.Common.{ap, length, rules, arith}
use Rattle.array_maps.specs.MapList.{MapList}
use Rattle.loop_core_gather.proofs.StoringLaws.{page_stored}
use Rattle.loop_core_gather.proofs.storing.store_page.Goals as goal

pub returns-then-first-elements-clause-words : goal.returns-then-first-elements-clause-words
returns-then-first-elements-clause-words c =
    let long = ap length c.words-elements.ensures.words in
    page_stored c.args.maps.now.words c.store_run.new.self.words c.args.page.now c.min-count.result
    (omega (arith, long)) (omega arith) (search rules) (λ k low below. omega (arith, long))
    (ap (λ (m : MapList). m.words) c.store_run.ensures)
