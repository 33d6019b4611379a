use Rattle.row_facts.specs.Meetings.{AreKept, AreDone, IsListedOrNever}
use Rattle.row_facts.proofs.meeting.add_meetings.Given as goal

abbrev pub invariant-loop-second : goal.invariant-loop-second
invariant-loop-second l = AreKept l.fn.meetings.items l.meetings.items ×
    AreDone l.list l.sites l.first l.second (IsListedOrNever l.list l.meetings.items l.first)
