use Rattle.std.proofs.Common.{None, Some, sym, ◌∙◌, subst}
use Rattle.loop_core_block.specs.{Loops.{IsSpeculative}, Shown.{shown}}
use Rattle.spec_run_workers.proofs.StillWorks.{on_err, in_time, stops_looking, runs, break_small}
use Rattle.spec_run_workers.proofs.working.take.Goals.{in-Some, in_default}
use Rattle.spec_run_workers.proofs.working.take.Goals as goal

pub returns-in_err-block-clause-not_run : goal.returns-in_err-block-clause-not_run
returns-in_err-block-clause-not_run g c =
    on_err _ _ (stops_looking c.args.of.now c.args.number c.look.result c.look.ensures.seen
    (in_time _ c.args.of.now c.args.number c.start.result c.look.result c.of.view_is c.start.ensures.start
    c.if-look-start.false))

pub post-requires-clause-index : goal.post-requires-clause-index
post-requires-clause-index g c =
    break_small c.args.of.now c.args.number (shown c.in_ok-block.block) c.in_ok-block.ensures
    (subst IsSpeculative c.of.view_is c.of.invariant) c.in-Some.index (sym c.broke.ensures ∙ c.in-Some.is)

pub returns-clause-took : goal.returns-clause-took
returns-clause-took g c =
    let soon = in_time _ c.args.of.now c.args.number c.start.result c.look.result c.of.view_is c.start.ensures.start
    c.if-look-start.false in
    elim c.match-broke.branch [
      | in-Some w ↦
          runs c.args.of.now c.args.number c.look.result c.look.ensures.seen soon (shown c.in_ok-block.block)
          c.in_ok-block.ensures (Some w.in-Some.index) (sym c.broke.ensures ∙ w.in-Some.is)
          (w.seat-is ∙ w.post.ensures)
      | in_default w ↦
          runs c.args.of.now c.args.number c.look.result c.look.ensures.seen soon (shown c.in_ok-block.block)
          c.in_ok-block.ensures None (sym c.broke.ensures ∙ w.in_default.is) w.seat-is
    ]
