use Rattle.std.proofs.Common.{rules}
use Rattle.bpfspec_output.proofs.StreamLaws.{appends_next}
use Rattle.bpfspec_output.proofs.writing.write_all.Goals as goal

pub pieces-preserved : goal.pieces-preserved
pieces-preserved g c = (
  search rules,
  search rules,
  appends_next _ _ _ c.args.bytes.now c.pieces.at c.in-Ok.n c.pieces.invariant.2
      c.in-Ok.ensures.bytes,
)
