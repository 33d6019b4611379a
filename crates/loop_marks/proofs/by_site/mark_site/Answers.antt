use Rattle.std.proofs.{Common.{Bool, refl, sym, subst, arith}, lemmas.Grind.{common_steps}}
use Rattle.lane_stamps.specs.Sites.{mask_of, places_of, shown}
use Rattle.shadow_marks.{specs.{Standing.{plane_by}}, proofs.FoldLaws.{each_plane}}
use Rattle.loop_marks.{specs.SiteMarks.{AreBelow}, proofs.SiteLaws.{marks_made, marks_none, marks_same, words_reached}}
use Rattle.loop_marks.proofs.by_site.mark_site.Goals as goal

pub mark_operators-requires : goal.mark_operators-requires
mark_operators-requires c =
    each_plane _ _ (λ op. words_reached c.args.planes.now.elements _ (plane_by c.args.planes.now.operators op)
    (c.requires.whole.by op) (record {
      room = c.requires.room;
      below = subst (λ (h : Bool). AreBelow c.args.planes.now.elements c.args.lanes h
          (mask_of (shown c.args.of_lanes) c.args.site.now) (places_of (shown c.args.of_lanes) c.args.site.now)) (sym c.is_of_halves-halves.ensures) c.requires.within;
      first = c.in-Some.ensures.end;
      last = c.in-Some-end_of.ensures.end;
      elements = c.elements_of-elements.ensures;
    }))

pub returns : goal.returns
returns c = λ before marked.
    marks_made (shown c.args.of_lanes) c.args.site.now c.args.others.now c.args.index c.args.lanes before
    c.args.planes.now _ marked c.access_of-access.result c.is_plain.result c.is_of_halves-halves.result
    c.access_of-access.ensures c.is_plain.ensures c.is_of_halves-halves.ensures c.requires.whole c.requires.within refl
    (grind (arith, common_steps)) c.mark_operators.ensures c.mark_numbers.ensures

pub returns-then-is_covered : goal.returns-then-is_covered
returns-then-is_covered c = λ before marked.
    marks_same (shown c.args.of_lanes) c.args.site.now c.args.others.now c.args.index c.args.lanes before
    c.args.planes.now c.requires.whole c.requires.test marked
    (rw (sym c.access_of-access.ensures) (c.is_covered.ensures c.if-is_covered.true))

pub returns-in_default : goal.returns-in_default
returns-in_default c = λ before marked.
    marks_none (shown c.args.of_lanes) c.args.site.now c.args.others.now c.args.index c.args.lanes before
    c.args.planes.now c.requires.whole c.requires.test marked c.in_default.ensures.none
