use Rattle.std.proofs.Common.{◌≡◌, ◌∙◌, ℕ, Bool, ◌+◌, slice_index, sym, ap}
use Rattle.lane_stamps.{specs.Sites.{element_named, is_of_halves}, proofs.ApplyLaws.{run_more}}
use Rattle.lane_stamps.proofs.applying.apply_run.Goals as goal

pub loop-lane-preserved : goal.loop-lane-preserved
loop-lane-preserved c =
    let is : c.element_of-start.result ≡ element_named (is_of_halves c.args.kind) c.args.first =
    c.element_of-start.ensures ∙ ap (λ (halves : Bool). element_named halves c.args.first) c.is_of_halves.ensures in
    run_more c.args.kind c.args.to.mask.now c.args.to.places.now (slice_index c.args.values.now) c.args.first
    (c.element_of-start.result + c.loop-lane.lane) c.loop-lane.lane c.args.to.count c.left_if.result c.args.words.now
    c.loop-lane.words (ap (λ (n : ℕ). n + c.loop-lane.lane) (sym is)) c.requires.form.0 c.loop-lane-test.true
    c.left_if.ensures c.loop-lane.invariant
