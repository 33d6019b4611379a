use Rattle.std.proofs.Common.{◌≡◌, ℕ, ◌≤◌, true, below_more, subst, arith}
use Rattle.lane_rows.specs.Rows.{is_in, place_at}
use Rattle.lane_stamps.specs.{Stamps.{stamp_at}, Marks.{FindsGreater, mark_at}}
use Rattle.lane_stamps.proofs.marking.look_lanes.Goals as goal

pub loop-lane-preserved : goal.loop-lane-preserved
loop-lane-preserved c =
    let mask = c.args.mask.now in
    let places = c.args.places.now in
    below_more (λ (i : ℕ). is_in mask i ≡ true
    → stamp_at c.args.stamps.now (place_at places i) ≤ mark_at c.args.top c.args.sites i)
    c.loop-lane.lane c.loop-lane.invariant
    (λ there. omega (arith, c.mark_of-mark.ensures, c.finds_greater.ensures.none c.if-finds_greater.false there))

pub returns-then-finds_greater-clause-met : goal.returns-then-finds_greater-clause-met
returns-then-finds_greater-clause-met c less =
    subst (λ (mark : ℕ). FindsGreater c.args.stamps.now c.args.mask.now c.args.places.now
    c.loop-lane.lane mark) c.mark_of-mark.ensures (c.finds_greater.ensures.found c.if-finds_greater.true)
