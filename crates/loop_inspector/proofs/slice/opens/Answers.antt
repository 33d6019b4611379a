use Rattle.std.proofs.Common.{◌≡◌, ◌∙◌, ◌⊎◌, ◌+◌, true, length, take, get_or, refl, sym, ap, inl, inr}
use Rattle.std.proofs.Common.{arith}
use Rattle.std.{specs.Prelude.{slice_get, Some}, proofs.lemmas.List.{take_more, length-take-le, length_push}}
use Rattle.std.proofs.lemmas.{Bool.{cases_Bool}, Option.{slice_get_read, slice_get-get_or}}
use Rattle.row_list.specs.{declared.row_op.RowOp.{RowOp, TheVariants.{All}}, Places.{is_access}}
use Rattle.row_facts.{specs.Sites.{sites_of}, proofs.SiteLaws.{sites_more, sites_same}}
use Rattle.loop_inspector.specs.Slices.{IsClosed}
use Rattle.loop_inspector.proofs.CutLaws.{site-at, site-is, opens-more}
use Rattle.loop_inspector.proofs.slice.opens.Goals.{then-is_access+else-next-sites, else-is_access}
use Rattle.loop_inspector.proofs.slice.opens.Goals as goal

pub loop-op-preserved : goal.loop-op-preserved
loop-op-preserved c =
    let ops = c.args.ops.now in
    let sites = c.args.sites.now in
    let spans = c.args.spans.now in
    let k = c.loop-op.op-index in
    let next = c.loop-op.next in
    let op : RowOp = get_or ops k All in
    let reaches = c.if-is_access.reaches in
    let inv = c.loop-op.invariant in
    let there : slice_get ops k ≡ Some op = slice_get-get_or ops k All c.loop-op-test.true in
    let counted : length (take k ops) ≡ k = length-take-le k ops (omega (arith, c.loop-op-test.true)) in
    let closed : is_access op ≡ true → reaches ≡ true ⊎ IsClosed sites spans op = λ is. elim c.if-is_access.branch [
      | then-is_access+else-next-sites w ↦
          let site = w.index-sites-next.result in
          let site_there : slice_get sites next ≡ Some site =
          slice_get_read sites (length sites) next site refl w.if-next-sites.false w.index-sites-next.is in
          let named : slice_get (sites_of ops) next ≡ Some op =
          ap (slice_get (sites_of ops)) inv.next ∙ site-at ops k op there is in
          elim (cases_Bool reaches) [
            | inl is_open ↦ inl is_open
            | inr shut ↦ inr (record {
              k = next;
              site = site;
              there = site_there;
              same = site-is sites ops next site op c.requires site_there named;
              avoids = w.reaches_open-reaches.ensures (sym w.reaches-is ∙ shut);
            })
          ]
      | else-is_access w ↦ absurd (cc (is, c.is_access.ensures, w.if-is_access.false))
    ] in
    rw (c.in_ok-push.ensures.items, take_more ops k All c.loop-op-test.true) (record {
      count = length_push c.loop-op.opens.items reaches ∙ ap (λ n. n + 1) inv.count;
      next = elim c.if-is_access.branch [
        | then-is_access+else-next-sites w ↦ w.next-is ∙ ap (λ n. n + 1) inv.next
            ∙ sym (length_push (sites_of (take k ops)) op)
            ∙ ap length (sites_more (take k ops) op (sym c.is_access.ensures ∙ w.if-is_access.true))
        | else-is_access w ↦ w.next-is ∙ inv.next
            ∙ ap length (sites_same (take k ops) op (sym c.is_access.ensures ∙ w.if-is_access.false))
      ];
      opens = opens-more sites spans (take k ops) c.loop-op.opens.items op reaches (inv.count ∙ sym counted) closed
          inv.opens;
    })
