use Rattle.std.{proofs.{Common.{◌≡◌, ◌∙◌, get_or, take, sym}, lemmas.List.{take_more}}, specs.Prelude.{Some, None}}
use Rattle.row_list.specs.declared.row_op.RowOp.TheVariants.{All}
use Rattle.{row_list.specs.Places.{place_in}, row_facts.proofs.SiteLaws.{has-place, no-place, more-sites, same-sites}}
use Rattle.row_facts.proofs.site.sites.Goals.{in-Some+in_ok-site-in-Some+in_ok-push-in-Some, in-None}
use Rattle.row_facts.proofs.site.sites.Goals as goal

pub loop-op-preserved : goal.loop-op-preserved
loop-op-preserved c =
    let ops = c.args.ops.now in
    let facts = c.args.facts.now in
    let k = c.loop-op.op-index in
    let op = get_or ops k All in
    elim c.match-place.branch [
      | in-Some+in_ok-site-in-Some+in_ok-push-in-Some w ↦
          let there : place_in op ≡ Some w.in-Some.place = sym c.place.ensures ∙ w.in-Some.is in
          rw (w.sites-is, w.in_ok-push-in-Some.ensures.items, take_more ops k All c.loop-op-test.true)
          (more-sites ops facts (take k ops) c.loop-op.sites.items op w.in_ok-site-in-Some.site c.loop-op.invariant
          (has-place op w.in-Some.place there) w.in_ok-site-in-Some.ensures)
      | in-None w ↦
          let there : place_in op ≡ None = sym c.place.ensures ∙ w.in-None.is in
          rw (w.sites-is, take_more ops k All c.loop-op-test.true)
          (same-sites ops facts (take k ops) c.loop-op.sites.items op c.loop-op.invariant (no-place op there))
    ]
