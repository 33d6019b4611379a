use Rattle.bpfspec_records.proofs.UnitLaws.{known-there}
use Rattle.bpfspec_records.proofs.units.known_before.Goals as goal

pub returns : goal.returns
returns c =
    known-there c.args.inspection.now c.args.slot c.state.result c.requires.starts c.requires.up_to
    c.state.ensures.passed c.state.ensures.whole
