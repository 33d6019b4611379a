use Rattle.std.proofs.Common.{take}
use Rattle.lane_stamps.specs.Sites.{shown}
use Rattle.loop_marks.specs.SiteMarks.{IsUnseen}
use Rattle.loop_marks.proofs.comparing.is_unseen.Given as goal

abbrev pub invariant-loop-other : goal.invariant-loop-other
invariant-loop-other l = IsUnseen (shown l.of_lanes) l.lanes (take l.other-index l.later) l.site
