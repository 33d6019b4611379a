use Rattle.std.{proofs.Common.{◌≡◌, ◌-◌, ◌≤◌, vec_len}, specs.Io.KnownBytes.{Keeps, prepend_known}}
use Rattle.bpfspec_output.proofs.reading.read_all.Given as goal

-- the bytes so far and what is left are the input, and nothing failed
abbrev pub invariant-pieces : goal.invariant-pieces
invariant-pieces g l = (vec_len l.bytes ≤ l.limit) × (g.R.Source.failed l.source ≡ g.R.Source.failed l.initial.source)
    × Keeps (g.R.Source.left l.initial.source) (prepend_known l.bytes.items (g.R.Source.left l.source))

abbrev pub decreases-pieces : goal.decreases-pieces
decreases-pieces g l = l.limit - vec_len l.bytes
