use Rattle.lane_stamps.specs.Sites.{shown}
use Rattle.loop_core_sequential.proofs.NotingLaws.{NotedUpTo}
use Rattle.loop_core_sequential.proofs.noting.note_writes.Given as goal

abbrev pub invariant-loop-site : goal.invariant-loop-site
invariant-loop-site l = NotedUpTo l.maps.words l.fn.log l.lanes (shown l.of_lanes) l.sites l.site-index l.log
