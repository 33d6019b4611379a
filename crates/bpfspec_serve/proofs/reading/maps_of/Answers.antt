use Rattle.std.proofs.Common.{ap, Err}
use Rattle.bpf_text.specs.MapsText.{lists}
use Rattle.bpfspec_serve.proofs.OutputLaws.{other_sizes}
use Rattle.bpfspec_serve.proofs.reading.maps_of.Goals as goal

pub returns-in-Err-Limits-clause-words : goal.returns-in-Err-Limits-clause-words
returns-in-Err-Limits-clause-words c = other_sizes (lists c.args.values.now) c.args.program.now.sizes
    (c.in-Err-Limits.ensures.limits (ap Err c.in-Err-Limits.field-0-is)) c.sizes-sizes.ensures.fit
