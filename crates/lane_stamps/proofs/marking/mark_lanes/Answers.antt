use Rattle.std.proofs.Common.{◌≡◌, ℕ, ◌≤◌, true, inl, refl, below_more, arith}
use Rattle.lane_rows.specs.Rows.{is_in, place_at}
use Rattle.lane_stamps.{specs.{Stamps.{stamp_at}, Marks.{mark_at}}, proofs.MarkLaws.{marks_more}}
use Rattle.lane_stamps.proofs.StampSteps.{rises_at}
use Rattle.lane_stamps.proofs.marking.mark_lanes.Goals as goal

pub loop-lane-init : goal.loop-lane-init
loop-lane-init c = record {
  marked = λ lane less. absurd (omega (arith, less));
  rises = λ at. omega arith;
  only = λ slot. inl refl;
}

pub loop-lane-preserved : goal.loop-lane-preserved
loop-lane-preserved c =
    let mask = c.args.mask.now in
    let places = c.args.places.now in
    let top = c.args.top in
    let sites = c.args.sites in
    let lane = c.loop-lane.lane in
    let inv = c.loop-lane.invariant in
    let first = c.args.stamps.now in
    let old = c.loop-lane.stamps in
    let new = c.mark_lane.new.stamps in
    let long = c.mark_lane.auto.stamps in
    record {
      marked = below_more (λ (i : ℕ). is_in mask i ≡ true
          → mark_at top sites i ≤ stamp_at new (place_at places i))
          lane
          (λ i less there. omega (
            arith,
            inv.marked i less there,
            rises_at old new (place_at places i) long c.mark_lane.ensures.rises,
          ))
          (λ there. omega (arith, c.mark_of-mark.ensures, c.mark_lane.ensures.marked there));
      rises = λ at. omega (arith, inv.rises at, c.mark_lane.ensures.rises at);
      only = marks_more mask places lane top sites c.mark_of-mark.result first old new c.loop-lane.auto.stamps
          c.mark_of-mark.ensures c.mark_lane.ensures.only inv.only;
    }
