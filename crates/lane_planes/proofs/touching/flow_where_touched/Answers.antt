use Rattle.std.proofs.Common.{◌<◌, length, rules, arith}
use Rattle.lane_planes.proofs.IdleLaws.{page_more}
use Rattle.lane_planes.proofs.touching.flow_where_touched.Goals as goal

pub loop-page-preserved : goal.loop-page-preserved
loop-page-preserved g c =
    let room : c.loop-page.page < length c.loop-page.into =
    first_of (search rules, omega (arith, c.loop-page-test.true, c.loop-page.auto.into, c.loop-page.auto.page-end))
    in
    page_more _ _ c.loop-page.into c.loop-page.page c.touched_word.result room c.loop-page.invariant
    c.touched_word.ensures
