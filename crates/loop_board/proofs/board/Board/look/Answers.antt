use Rattle.std.proofs.Common.{arith}
use Rattle.loop_board.proofs.{Moves.{sees}, Wholes.{same_table}}
use Rattle.loop_board.proofs.board.Board.look.Goals as goal

pub load-requires : goal.load-requires
load-requires c = (
  same_table _ _ _ c.seat.inside.seat.me.0 _ _ _ c.seat.view_is c.requires c.self.view_is,
  omega arith,
  sees _ _ _ _ c.seat.invariant.1.parts,
)
