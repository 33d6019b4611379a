use Rattle.std.proofs.Common.{◌≡◌, ℕ, ◌<◌, slice_get, Some}
use Rattle.row_facts.specs.{declared.meeting.Meeting.{Meeting}, Marks.{IsWatched}}
use Rattle.row_facts.proofs.marking.are_watched.Given as goal

abbrev pub invariant-loop-k : goal.invariant-loop-k
invariant-loop-k l = (i : ℕ) (meeting : Meeting) → i < l.k → slice_get l.meetings i ≡ Some meeting
    → IsWatched l.sites meeting.first × IsWatched l.sites meeting.second
