use Rattle.std.proofs.{Common.{◌≡◌, length, refl, inr}, lemmas.Option.{slice_get_read}}
use Rattle.std.specs.Prelude.{slice_get, Some}
use Rattle.loop_inspector.proofs.SpanLaws.{open-both, open-kept, open-more}
use Rattle.loop_inspector.proofs.open.add_spans.Goals.{then-may_conflict+in_ok-add_span, else-may_conflict}
use Rattle.loop_inspector.proofs.open.add_spans.Goals as goal

pub loop-by-preserved : goal.loop-by-preserved
loop-by-preserved c =
    let sites = c.args.sites.now in
    let at = c.args.at.now in
    let by = c.by-item.result in
    let n = c.args.n in
    let k = c.loop-by.by-index in
    let old = c.loop-by.spans.items in
    let inv = c.loop-by.invariant in
    let there : slice_get sites k ≡ Some by =
    slice_get_read sites (length sites) k by refl c.loop-by-test.true c.by-item.is in
    elim c.if-may_conflict.branch [
      | then-may_conflict+in_ok-add_span w ↦
          let new = w.add_span.new.spans.items in
          let added = w.in_ok-add_span.ensures in
          rw w.spans-is (record {
            kept = λ e is. added.kept e (inv.kept e is);
            done = open-more sites at by n k new there
                (λ left. open-both sites at by n w.span_of.result w.span_of-then-may_conflict.result w.shared.result new
                w.span_of.ensures w.span_of-then-may_conflict.ensures w.shared.ensures added.added)
                (open-kept sites at n k old new added.kept inv.done);
          })
      | else-may_conflict w ↦ rw w.spans-is (record {
        kept = inv.kept;
        done = open-more sites at by n k old there
            (λ left e. inr (c.may_conflict.ensures w.if-may_conflict.false e left)) inv.done;
      })
    ]
