use Rattle.std.proofs.Common.{◌≡◌, length, drop, arith}
use Rattle.std.proofs.Math.Seq.{take-append_seam}
use Rattle.lane_planes.proofs.verdict.conflict_plane.Goals as goal

pub returns-clause-elements : goal.returns-clause-elements
returns-clause-elements c visits stand =
    let count = c.conflicts_touched.ensures.plane.count in
    let long = c.in_ok-plane.ensures.len in
    let now = c.conflicts_touched.new.into in
    let all : c.in_ok-plane.plane.len ≡ length c.conflicts_touched.new.into = omega (arith, count, long) in
    rw (all, take-append_seam now (drop (length now) c.in_ok-plane.plane.items))
    (c.conflicts_touched.ensures.elements visits stand)
