use Rattle.std.proofs.Common.{rules, vec_len}
use Rattle.bpfspec_output.proofs.StreamLaws.{consumes_at_most}
use Rattle.bpfspec_output.proofs.reading.read_all.Goals as goal

pub returns-in_err-read_piece-clause-consumed : goal.returns-in_err-read_piece-clause-consumed
returns-in_err-read_piece-clause-consumed g c =
    let so_far = c.pieces.invariant in
    consumes_at_most _ _ _ c.pieces.bytes.items (vec_len c.pieces.bytes) c.args.limit (search rules) so_far.0 so_far.2
    c.in_err-read_piece.ensures.consumed
