use Rattle.std.proofs.Common.{◌≡◌}
use Rattle.bpf_verify_origin.specs.Sources.{source_before}
use Rattle.bpf_verify_origin.proofs.inspection.Inspection.source.Given as goal

abbrev pub invariant-loop-at : goal.invariant-loop-at
invariant-loop-at l = source_before l.self l.slot l.reg ≡ source_before l.self l.at l.reg

abbrev pub decreases-loop-at : goal.decreases-loop-at
decreases-loop-at l = l.at
