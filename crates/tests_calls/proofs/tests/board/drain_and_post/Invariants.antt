use Rattle.std.proofs.Common.{◌≡◌}
use Rattle.tests_calls.proofs.tests.board.drain_and_post.Given as goal

abbrev pub invariant-loop : goal.invariant-loop
invariant-loop l = l.seat.board ≡ l.board
