use Rattle.row_facts.specs.Meetings.{AreDone, LoadsNoOwn}
use Rattle.row_facts.proofs.meeting.may_load_own.Given as goal

abbrev pub invariant-loop-second : goal.invariant-loop-second
invariant-loop-second l = AreDone l.list l.sites l.first l.second (LoadsNoOwn l.list l.first)
