use Rattle.std.proofs.Common.{◌≡◌, sym, subst, arith}
use Rattle.loop_board.specs.{declared.view.Extent.{Extent}, Seats.{IsWithinLimits}}
use Rattle.loop_board.proofs.{Moves.{claims}, Wholes.{same_table}}
use Rattle.loop_board.proofs.board.Board.claim.Goals as goal

pub fetch_add-found-requires : goal.fetch_add-found-requires
fetch_add-found-requires c =
    let board = c.self.invariant in
    let never : c.seat.inside.seat.me.0.nones ≡ 0 = rw c.if-seat.false at c.seat.invariant.1.nones in (
      same_table _ _ _ c.seat.inside.seat.me.0 _ _ _ c.seat.view_is c.requires c.self.view_is,
      omega arith,
      claims _ (subst (λ (e : Extent). IsWithinLimits e.blocks e.workers) (sym board.same) board.limits) _ _ _
          c.seat.invariant.1.parts never _ (omega arith),
    )
