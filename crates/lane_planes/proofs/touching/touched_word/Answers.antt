use Rattle.lane_planes.proofs.IdleLaws.{untouched_word}
use Rattle.lane_planes.proofs.touching.touched_word.Goals as goal

pub returns-else-is_marked : goal.returns-else-is_marked
returns-else-is_marked g c = untouched_word c.args.planes.now c.args.flow.now c.args.page c.requires.tested
    c.requires.stand (c.is_marked.ensures.0 c.if-is_marked.false)
