use Rattle.std.proofs.Common.{sym, ◌∙◌}
use Rattle.bpf_text_operands.proofs.StemLaws.{entry_found, entry_moves}
use Rattle.bpf_text_operands.proofs.tables.stem_at.Goals as goal

pub loop-entry-preserved : goal.loop-entry-preserved
loop-entry-preserved c =
    entry_moves c.args.word.now _ c.loop-entry.entry-index _ _ c.loop-entry-test.true
    (sym c.is_same.ensures ∙ c.if-is_same.false)
    c.loop-entry.invariant

pub returns-then-is_same : goal.returns-then-is_same
returns-then-is_same c =
    entry_found c.args.word.now _ c.loop-entry.entry-index _ _ c.loop-entry-test.true
    (sym c.is_same.ensures ∙ c.if-is_same.true)
    c.loop-entry.invariant
