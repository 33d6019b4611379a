use Rattle.loop_board.proofs.Histories.{legal_draws}
use Rattle.loop_board.proofs.law_of_draws.Goals as goal

pub returns : goal.returns
returns c = legal_draws
