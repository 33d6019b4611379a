use Rattle.std.proofs.Common.{◌<◌, length, arith}
use Rattle.lane_planes.proofs.Counts.{lane_within}
use Rattle.lane_planes.proofs.counting.is_clear.Goals as goal

pub returns : goal.returns
returns g c clear k small =
    let inside : k < length c.args.vector.now = omega arith in
    let within = lane_within c.args.vector.now 0 k inside in
    grind (arith, within, clear)
