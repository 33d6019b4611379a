use Rattle.std.proofs.Common.{◌≤◌, arith}
use Rattle.loop_board.{specs.History.{most_index}, proofs.{Moves.{notes}, Wholes.{same_table}}}
use Rattle.loop_board.proofs.board.Board.post.Goals as goal

pub fetch_min-requires : goal.fetch_min-requires
fetch_min-requires c =
    let small : c.from.result ≤ most_index = omega arith in (
      same_table _ _ _ c.seat.inside.seat.me.0 _ _ _ c.seat.view_is c.requires.board c.self.view_is,
      omega arith,
      notes _ _ _ _ _ small c.seat.invariant.1.parts,
    )
