use Rattle.std.proofs.{Common.{rules, ◌≡◌, ℕ, [], refl, subst, length, drop, arith}, lemmas.List.{drop_all}}
use Rattle.lane_stamps.specs.Sites.{shown}
use Rattle.loop_marks.specs.SiteMarks.{SitesMarked, touches_in}
use Rattle.loop_marks.proofs.{SiteLaws.{unmarked}, UnseenLaws.{lanes_marked}}
use Rattle.loop_marks.proofs.marks.LoopMarks.mark_lanes.Goals as goal

pub loop-at-init : goal.loop-at-init
loop-at-init c = record {
  below = omega arith;
  marks = rw (drop_all (length c.args.sites.now) c.args.sites.now (omega arith)) (unmarked
      (touches_in (shown c.args.of_lanes) []) c.args.index c.args.lanes (λ holds e lane less. refl)
      c.args.self.now.planes c.requires.whole (search rules));
}

pub returns-clause-marked : goal.returns-clause-marked
returns-clause-marked c = λ gone.
    let none = c.loop-at-test.false in
    let start : c.loop-at.at ≡ 0 = omega (arith, none) in
    lanes_marked c.args.sites.now (shown c.args.of_lanes) c.args.index c.args.lanes c.args.self.now.planes
    c.loop-at.self.planes c.requires.indexes (c.are_unseen.ensures c.if-not-are_unseen.false)
    (subst (λ (k : ℕ). SitesMarked (touches_in (shown c.args.of_lanes) (drop k c.args.sites.now)) c.args.index
    c.args.lanes c.args.self.now.planes c.loop-at.self.planes) start c.loop-at.invariant.marks)
