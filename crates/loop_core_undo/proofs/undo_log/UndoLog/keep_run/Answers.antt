use Rattle.std.proofs.{Common.{◌≡◌, ◌/◌, false, length, get_or, inl, inr, ◌∙◌, ap, arith}, lemmas.Bool.{cases_eq}}
use Rattle.loop_core_undo.proofs.UndoLaws.{keeps_same, keeps_more}
use Rattle.loop_core_undo.proofs.undo_log.UndoLog.keep_run.Goals as goal

pub loop-page-init : goal.loop-page-init
loop-page-init c = record {
  kept = keeps_same c.args.maps.now.words c.args.self.now;
  saved = λ page low high. absurd (omega (arith, low, high));
}

pub keep-requires-clause-within : goal.keep-requires-clause-within
keep-requires-clause-within c =
    let same : length c.loop-page.self.written.items ≡ length c.args.self.now.written.items =
    ap length c.loop-page.invariant.kept.written in
    let within = c.requires.within in
    let more = c.loop-page-test.true in
    omega (arith, same, within, more)

pub keep-requires-clause-count : goal.keep-requires-clause-count
keep-requires-clause-count c =
    let same : length c.loop-page.self.written.items ≡ length c.args.self.now.written.items =
    ap length c.loop-page.invariant.kept.written in
    let count = c.requires.count in
    omega (arith, same, count)

pub loop-page-preserved : goal.loop-page-preserved
loop-page-preserved c = record {
  kept = keeps_more c.args.maps.now.words c.args.self.now c.loop-page.self c.keep.new.self c.loop-page.invariant.kept
      c.keep.ensures.kept;
  saved = λ page low high. elim (cases_eq page c.loop-page.page) [
    | inl same ↦ ap (λ p. get_or c.keep.new.self.saved.items p false) same ∙ c.keep.ensures.saved
    | inr other ↦
        c.keep.ensures.kept.saved page (c.loop-page.invariant.saved page low (omega (arith, high, other)))
  ];
}

pub returns-clause-kept : goal.returns-clause-kept
returns-clause-kept c = c.loop-page.invariant.kept

pub returns-clause-saved : goal.returns-clause-saved
returns-clause-saved c e low high =
    let end = c.loop-page-test.false in
    c.loop-page.invariant.saved (e / 64) (omega (arith, low)) (omega (arith, high, end))
