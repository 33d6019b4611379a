use Rattle.std.proofs.Common.{◌≡◌, ◌∙◌, ℕ, ◌+◌, true, length, take, get_or, sym, ap, subst, arith}
use Rattle.std.{specs.Prelude.{slice_get, Some}, proofs.lemmas.List.{length_push, take_more}}
use Rattle.std.proofs.lemmas.Option.{slice_get-get_or, slice_get_within}
use Rattle.row_list.specs.{declared.row_op.RowOp.{RowOp, TheVariants.{All}}, Places.{is_access}}
use Rattle.row_facts.{specs.{Meetings.{LoadsNoneOwn}, Sites.{sites_of}}, proofs.SiteLaws.{sites_more, sites_same}}
use Rattle.loop_inspector.specs.Slices.{IsNeeded}
use Rattle.loop_inspector.proofs.SpanLaws.{each-more}
use Rattle.loop_inspector.proofs.slice.needs_no_own.Goals.{then-is_access+else-next-sites+else-is_set_at}
use Rattle.loop_inspector.proofs.slice.needs_no_own.Goals.{else-is_access}
use Rattle.loop_inspector.proofs.slice.needs_no_own.Goals.{else-is_set_at-via-then-is_set_at+else-may_load_own}
use Rattle.loop_inspector.proofs.slice.needs_no_own.Goals.{else-is_set_at-via-else-is_set_at}
use Rattle.loop_inspector.proofs.slice.needs_no_own.Goals as goal

pub loop-k-preserved : goal.loop-k-preserved
loop-k-preserved c =
    let ops = c.args.ops.now in
    let k = c.loop-k.k in
    let op : RowOp = get_or ops k All in
    let there : slice_get ops k ≡ Some op = slice_get-get_or ops k All c.loop-k-test.true in
    let inv = c.loop-k.invariant in
    record {
      next = rw (take_more ops k All c.loop-k-test.true) (elim c.if-is_access.branch [
        | then-is_access+else-next-sites+else-is_set_at w ↦ w.next-is ∙ ap (λ (n : ℕ). n + 1) inv.next
            ∙ sym (length_push (sites_of (take k ops)) op)
            ∙ ap length (sites_more (take k ops) op (sym c.is_access.ensures ∙ w.if-is_access.true))
        | else-is_access w ↦ w.next-is ∙ inv.next
            ∙ ap length (sites_same (take k ops) op (sym c.is_access.ensures ∙ w.if-is_access.false))
      ]);
      own = λ facts are_facts are_sites. each-more (λ (j : ℕ) (one : RowOp). is_access one ≡ true
          → IsNeeded c.args.needed.now j → LoadsNoneOwn ops (length (sites_of (take j ops)))) ops k op there
          (λ access need. elim c.if-is_access.branch [
            | then-is_access+else-next-sites+else-is_set_at w ↦ elim w.else-is_set_at.branch [
              | else-is_set_at-via-then-is_set_at+else-may_load_own free ↦ subst (LoadsNoneOwn ops) inv.next
                  (free.may_load_own.ensures free.if-may_load_own.false facts are_facts are_sites)
              | else-is_set_at-via-else-is_set_at unset ↦
                  absurd (cc (w.is_set_at.ensures.only need, unset.if-is_set_at.false))
            ]
            | else-is_access w ↦ absurd (cc (access, c.is_access.ensures, w.if-is_access.false))
          ]) (inv.own facts are_facts are_sites);
    }

pub returns : goal.returns
returns c is facts are_facts are_sites k op there =
    c.loop-k.invariant.own facts are_facts are_sites k op
    (let inside = slice_get_within c.args.ops.now k op there in omega (arith, inside, c.loop-k-test.false)) there
