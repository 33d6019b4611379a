use Rattle.std.proofs.Common.{◌≡◌, ℕ, ◌+◌, ◌-◌, ◌<◌, sym, ap, subst, arith}
use Rattle.atomic_table.specs.Table.{Me}
use Rattle.loop_board.{specs.declared.view.SeatView.{SeatView}, proofs.Parting.{deals}}
use Rattle.loop_board.proofs.dealing.deal.Goals as goal

pub split_seat-seat-requires : goal.split_seat-seat-requires
split_seat-seat-requires c =
    let whole = c.loop-dealt.invariant.whole in
    let parts : c.loop-dealt.whole.me.0.parts ≡ c.args.workers + 1 - c.loop-dealt._dealt =
    ap (λ (m : Me (Unit {0}) SeatView). m.0.parts) whole in
    let nones : c.loop-dealt.whole.me.0.nones ≡ 0 = ap (λ (m : Me (Unit {0}) SeatView). m.0.nones) whole in (
      c.loop-dealt.invariant.table,
      subst (λ (n : ℕ). 0 < n) (sym c.requires.table.1) (omega arith),
      deals _ _ _ (omega arith) nones,
    )
