use Rattle.std.proofs.Common.{vec_len}
use Rattle.loop_board.proofs.Wholes.{Joined}
use Rattle.loop_board.proofs.gathering.join.Given as goal

abbrev pub invariant-loop-next : goal.invariant-loop-next
invariant-loop-next l = Joined l.words.table_id l.words.key l.fn.seats.items l.seats.items l.whole.table_id l.whole.me

abbrev pub decreases-loop-next : goal.decreases-loop-next
decreases-loop-next l = vec_len l.seats
