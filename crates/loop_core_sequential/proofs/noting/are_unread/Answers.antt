use Rattle.std.proofs.lemmas.List.{take_all, Elements.{All-more}}
use Rattle.lane_stamps.specs.Sites.{shown}
use Rattle.loop_core_undo.specs.Undo.{is_written}
use Rattle.loop_core_sequential.specs.Watched.{IsUnread}
use Rattle.loop_core_sequential.proofs.noting.are_unread.Goals as goal

pub loop-site-preserved : goal.loop-site-preserved
loop-site-preserved c =
    All-more (IsUnread (is_written c.args.log.now) c.args.lanes (shown c.args.of_lanes)) c.args.sites.now
    c.loop-site.site-index _ c.loop-site-test.true c.loop-site.invariant (c.is_unread.ensures c.if-not-is_unread.false)

pub returns : goal.returns
returns c = λ always.
    rw (take_all c.loop-site.site-index c.args.sites.now c.loop-site-test.false) at c.loop-site.invariant
