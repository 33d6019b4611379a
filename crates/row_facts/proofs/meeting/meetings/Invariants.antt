use Rattle.std.proofs.Common.{ℕ, ◌<◌, length}
use Rattle.row_facts.specs.Meetings.{AreDone, IsListedOrNever}
use Rattle.row_facts.proofs.meeting.meetings.Given as goal

abbrev pub invariant-loop-first : goal.invariant-loop-first
invariant-loop-first l = (first : ℕ) → first < l.first →
    AreDone l.ops l.sites first (length l.sites) (IsListedOrNever l.ops l.meetings.items first)
