use Rattle.std.{proofs.Common.{Err, map, sym, ◌∙◌, ap, subst}, specs.List.{All}}
use Rattle.loop_core_model.specs.Gather.{gather_fault}
use Rattle.loop_core_block.specs.{Loops.{LoopOf}, LoopBlocks.{RecordsRunOf}, Shown.{shown}}
use Rattle.loop_core_gather.specs.Gathered.{all_gathered}
use Rattle.spec_run_workers.{specs.Workers.{AreFaultless}, proofs.WorkerLaws.{not_both}}
use Rattle.spec_run_loop.proofs.by_blocks.gather_all.Goals as goal

pub gather-requires-clause-ran : goal.gather-requires-clause-ran
gather-requires-clause-ran c =
    subst (λ (l : LoopOf). All (λ b. RecordsRunOf l (shown b)) c.args.blocks.items) (sym c.of.view_is) c.requires.ran

pub unreachable-requires : goal.unreachable-requires
unreachable-requires c =
    let of = c.of.inside in
    not_both (gather_fault of.split.now (all_gathered of.program.now of.call.now of.start.now.words
    (map shown c.args.blocks.items))) c.in-Err-Fault.field-0-0
    (subst (λ (l : LoopOf). AreFaultless l (map shown c.args.blocks.items)) (sym c.of.view_is) c.requires.faultless)
    (c.gather.ensures.fault c.in-Err-Fault.field-0-0 (c.in-Err-Fault.is ∙ ap Err c.in-Err-Fault.field-0-is))
