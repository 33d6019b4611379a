use Rattle.std.proofs.Common.{get_or, rules, arith}
use Rattle.loop_core_undo.proofs.RunLaws.{no_run_yet, one_entry_more, all_entries}
use Rattle.loop_core_undo.proofs.runs.copy_words.Goals as goal

pub loop-e-init : goal.loop-e-init
loop-e-init c = no_run_yet c.args.words.now 0 c.args.first (λ e. get_or c.args.source.now e 0)

pub loop-e-preserved : goal.loop-e-preserved
loop-e-preserved c =
    one_entry_more c.args.words.now c.loop-e.words 0 c.args.first c.loop-e.e (λ e. get_or c.args.source.now e 0) _
    c.loop-e.invariant (omega arith) (omega arith) (search rules)

pub returns : goal.returns
returns c =
    all_entries c.args.words.now c.loop-e.words 0 c.args.first c.loop-e.e c.args.end
    (λ e. get_or c.args.source.now e 0) (omega (arith, c.loop-e-test.false, c.loop-e.auto.e-end)) c.loop-e.invariant
