use Rattle.std.proofs.Common.{arith}
use Rattle.loop_board.proofs.{Parting.{takes_in}, Wholes.{at_table, goes_on}}
use Rattle.loop_board.proofs.gathering.join.Goals as goal

pub join_seat-requires : goal.join_seat-requires
join_seat-requires c =
    let one = c.next.invariant.1 in (
      c.loop-next.invariant.table,
      at_table _ _ _ _ _ _ c.next.inside.seat.me.0 _ c.loop-next.invariant.boards c.in-Some-pop.ensures.items
          c.next.view_is,
      c.next.invariant.0,
      omega arith,
      takes_in _ _ _ _ _ c.loop-next.invariant.some_part (omega (arith, one.parts)),
    )

pub loop-next-preserved : goal.loop-next-preserved
loop-next-preserved c =
    let h = c.join_seat.ensures in
    rw h.0 (goes_on _ _ _ _ _ _ _ _ c.loop-next.invariant.boards c.in-Some-pop.ensures.items c.next.view_is _ _ _ _
    c.loop-next.invariant c.next.invariant.1 h.2)
