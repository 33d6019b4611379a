use Rattle.loop_board.proofs.Wholes.{least_is}
use Rattle.loop_board.proofs.board.Board.gather.Goals as goal

pub returns-clause-least : goal.returns-clause-least
returns-clause-least c = least_is _ _ _ _ _ c.join-whole.ensures.whole c.close-claimed.ensures
