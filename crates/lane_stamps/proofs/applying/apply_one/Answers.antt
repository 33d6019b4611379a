use Rattle.std.proofs.{Common.{◌≡◌, ◌∙◌, Bool, slice_index, sym, ap, arith}, lemmas.List.{set-get_or}}
use Rattle.lane_stamps.{specs.Sites.{element_named, is_of_halves}, proofs.ApplyLaws.{one_more}}
use Rattle.lane_stamps.proofs.applying.apply_one.Goals as goal

pub loop-lane-init : goal.loop-lane-init
loop-lane-init c = set-get_or c.args.words.now c.element_of-at.result 0

pub loop-lane-preserved : goal.loop-lane-preserved
loop-lane-preserved c =
    let is : c.element_of-at.result ≡ element_named (is_of_halves c.args.kind) c.args.place =
    c.element_of-at.ensures ∙ ap (λ (halves : Bool). element_named halves c.args.place) c.is_of_halves.ensures in
    one_more c.args.kind c.args.to.mask.now c.args.to.places.now (slice_index c.args.values.now) c.args.place
    c.element_of-at.result c.loop-lane.lane c.args.to.count c.loop-lane.word c.left_if-word.result c.args.words.now
    (omega (arith, is, c.requires.form.1)) (sym is) c.requires.form.0 c.loop-lane-test.true c.left_if-word.ensures
    c.loop-lane.invariant
