use Rattle.std.proofs.Common.{◌≡◌, ◌+◌, ◌-◌, ◌≤◌, [], replicate, vec_len, vec_capacity}
use Rattle.loop_board.specs.{Rule.{opening_view, board_id_of}, Seats.{new_seat}}
use Rattle.loop_board.proofs.dealing.deal.Given as goal

abbrev pub invariant-loop-dealt : goal.invariant-loop-dealt
invariant-loop-dealt l = record {
  table : l.whole.table_id ≡ l.words.table_id;
  whole : l.whole.me ≡ (opening_view l.words.key (l.workers + 1 - l._dealt), []);
  dealt : l.seats.items ≡ replicate (l._dealt - 1) (new_seat (board_id_of l.words.table_id l.words.key));
  count : vec_len l.seats + 1 ≡ l._dealt;
  room : l.workers ≤ vec_capacity l.seats;
}
