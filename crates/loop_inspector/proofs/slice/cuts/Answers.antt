use Rattle.std.proofs.Common.{◌≡◌, ℕ, ◌<◌, ◌≤◌, true, false, length, take, get_or, sym, ap, subst, inl, inr, arith}
use Rattle.std.{proofs.lemmas.{List.{take_more, take_all, length-take-le}, Option.{slice_get-get_or}}}
use Rattle.row_list.specs.declared.row_op.RowOp.{RowOp, TheVariants.{All}}
use Rattle.row_list.specs.Places.{is_access}
use Rattle.loop_inspector.specs.Slices.{IsClosed, IsCut}
use Rattle.loop_inspector.proofs.CutLaws.{cuts-more}
use Rattle.loop_inspector.proofs.slice.cuts.Goals as goal

pub loop-k-preserved : goal.loop-k-preserved
loop-k-preserved c sites spans opens =
    let list = c.args.list.now.list.items in
    let number = c.args.list.now.result in
    let needed = c.args.needed.now in
    let k = c.loop-k.k in
    let op : RowOp = get_or list k All in
    let made = c.in-Some.op in
    let inside : k < length list = omega (arith, c.loop-k-test.true, ap length c.as_slice-ops.ensures.value) in
    let counted : length (take k list) ≡ k = length-take-le k list (omega (arith, inside)) in
    let closed : c.is_set_at.result ≡ false → is_access op ≡ true → IsClosed sites spans op = λ unset is.
    elim (opens k op (slice_get-get_or list k All inside) is) [
      | inl set ↦ absurd (cc (c.is_set_at.ensures.only set))
      | inr closed ↦ closed
    ] in
    let cut : IsCut sites spans needed k number op made =
    (rw c.as_slice-ops.ensures.value at c.in-Some.ensures) sites spans closed in
    rw (c.in_ok-push-in-Some.ensures.items, take_more list k All inside)
    (cuts-more sites spans needed number (take k list) c.loop-k.cuts.items op made
    (subst (λ (n : ℕ). IsCut sites spans needed n number op made) (sym counted) cut)
    (c.loop-k.invariant sites spans opens))

pub returns : goal.returns
returns c sites spans opens =
    let list = c.args.list.now.list.items in
    let past : length list ≤ c.loop-k.k =
    omega (arith, c.loop-k-test.false, ap length c.as_slice-ops.ensures.value) in
    rw (take_all c.loop-k.k list past) at (c.loop-k.invariant sites spans opens)
