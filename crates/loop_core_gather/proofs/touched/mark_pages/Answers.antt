use Rattle.std.proofs.Common.{arith}
use Rattle.loop_core_block.specs.Shown.{shown}
use Rattle.loop_core_gather.proofs.TouchedLaws.{all_pages}
use Rattle.loop_core_gather.proofs.touched.mark_pages.Goals as goal

pub returns : goal.returns
returns c = all_pages c.args.touched.now c.loop-k.touched (shown c.args.block.now).copy.pages c.args.bit c.loop-k.k
    (omega (arith, c.pages-k-end.ensures)) c.loop-k.invariant
