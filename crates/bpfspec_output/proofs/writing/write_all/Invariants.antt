use Rattle.std.{proofs.Common.{◌≡◌, ◌-◌, ◌≤◌, length, take}, specs.Io.KnownBytes.{Appends}}
use Rattle.bpfspec_output.proofs.writing.write_all.Given as goal

-- the bytes before `at` are written, and nothing failed
abbrev pub invariant-pieces : goal.invariant-pieces
invariant-pieces g l = (l.at ≤ length l.bytes) × (g.W.Sink.failed l.sink ≡ g.W.Sink.failed l.initial.sink)
    × Appends (g.W.Sink.taken l.initial.sink) (g.W.Sink.taken l.sink) (take l.at l.bytes)

abbrev pub decreases-pieces : goal.decreases-pieces
decreases-pieces g l = length l.bytes - l.at
