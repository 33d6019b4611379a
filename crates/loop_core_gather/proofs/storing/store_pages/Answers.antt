use Rattle.std.proofs.Common.{arith}
use Rattle.loop_core_gather.proofs.StoringLaws.{stored_all}
use Rattle.loop_core_gather.proofs.storing.store_pages.Goals as goal

pub returns : goal.returns
returns c = stored_all c.args.maps.now c.loop-page.maps c.args.pages.now c.loop-page.page-index (omega arith)
    c.loop-page.invariant
