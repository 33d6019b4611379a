use Rattle.std.{proofs.Common.{◌≡◌, length}, specs.Io.KnownBytes.{Keeps}}
use Rattle.bpfspec_output.proofs.retrying.read_again.Given as goal

abbrev pub invariant-loop : goal.invariant-loop
invariant-loop g l = (length l.buffer ≡ length l.initial.buffer) × Keeps (g.R.Read.remaining l.initial.reader)
    (g.R.Read.remaining l.reader)
