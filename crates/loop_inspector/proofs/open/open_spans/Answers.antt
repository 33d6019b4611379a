use Rattle.std.proofs.{Common.{◌≡◌, length, refl}, lemmas.Option.{slice_get_read}}
use Rattle.std.specs.Prelude.{slice_get, Some}
use Rattle.loop_inspector.proofs.SpanLaws.{upto-more}
use Rattle.loop_inspector.proofs.open.open_spans.Goals.{then-reads+in_ok-add_spans, else-reads}
use Rattle.loop_inspector.proofs.open.open_spans.Goals as goal

pub loop-at-preserved : goal.loop-at-preserved
loop-at-preserved c =
    let sites = c.args.sites.now in
    let at = c.at-item.result in
    let k = c.loop-at.at-index in
    let old = c.loop-at.spans.items in
    let there : slice_get sites k ≡ Some at =
    slice_get_read sites (length sites) k at refl c.loop-at-test.true c.at-item.is in
    elim c.if-reads.branch [
      | then-reads+in_ok-add_spans w ↦ rw w.spans-is (upto-more sites at c.args.n k old w.add_spans.new.spans.items
          there w.in_ok-add_spans.ensures.kept (λ read. w.in_ok-add_spans.ensures.«open») c.loop-at.invariant)
      | else-reads w ↦ rw w.spans-is (upto-more sites at c.args.n k old old there (λ e is. is)
          (λ read. absurd (cc (read, c.reads.ensures, w.if-reads.false))) c.loop-at.invariant)
    ]
