use Rattle.std.proofs.Common.{false, refl, arith}
use Rattle.loop_core_undo.proofs.RunLaws.{no_run_yet, one_entry_more, all_entries}
use Rattle.loop_core_undo.proofs.runs.set_flags.Goals as goal

pub loop-e-init : goal.loop-e-init
loop-e-init c = no_run_yet c.args.flags.now false c.args.first (λ e. c.args.value)

pub loop-e-preserved : goal.loop-e-preserved
loop-e-preserved c =
    one_entry_more c.args.flags.now c.loop-e.flags false c.args.first c.loop-e.e (λ e. c.args.value) c.args.value
    c.loop-e.invariant (omega arith) (omega arith) refl

pub returns : goal.returns
returns c =
    all_entries c.args.flags.now c.loop-e.flags false c.args.first c.loop-e.e c.args.end (λ e. c.args.value)
    (omega (arith, c.loop-e-test.false, c.loop-e.auto.e-end)) c.loop-e.invariant
