use Rattle.std.proofs.Common.{◌≡◌, [], length}
use Rattle.bpf_text.specs.EventsText.{events_behind}
use Rattle.bpf_text.proofs.events.read_lines.Given as goal

abbrev pub invariant-loop-line : goal.invariant-loop-line
invariant-loop-line l = events_behind l.events.items l.lines ≡ events_behind [] l.initial.lines

abbrev pub decreases-loop-line : goal.decreases-loop-line
decreases-loop-line l = length l.lines
