use Rattle.std.proofs.Common.{All, take}
use Rattle.lane_stamps.specs.Sites.{shown}
use Rattle.loop_core_undo.specs.Undo.{is_written}
use Rattle.loop_core_sequential.specs.Watched.{IsUnread}
use Rattle.loop_core_sequential.proofs.noting.are_unread.Given as goal

abbrev pub invariant-loop-site : goal.invariant-loop-site
invariant-loop-site l = All (IsUnread (is_written l.log) l.lanes (shown l.of_lanes)) (take l.site-index l.sites)
