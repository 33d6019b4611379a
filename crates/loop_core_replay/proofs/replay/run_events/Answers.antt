use Rattle.std.proofs.Common.{arith}
use Rattle.loop_core_model.specs.declared.event.EventKind.TheVariants.{Claim}
use Rattle.loop_core_replay.proofs.EventLaws.{step_alone, step_last, step_refused, ended, unended}
use Rattle.loop_core_replay.proofs.replay.run_events.Goals as goal

pub loop-place-preserved-in-Ok-None : goal.loop-place-preserved-in-Ok-None
loop-place-preserved-in-Ok-None c =
    step_alone _ c.args.of.now c.of.view_is c.args.events.now c.loop-place.place c.loop-place.workers
    c.loop-place.blocks c.loop-place.invariant (record { kind = Claim; worker = 0 }) (omega arith) c.of.invariant
    c.step.new.self c.in-Ok-None.ensures.fits c.in_ok-breaks.breaks
    (rw c.get-worker.ensures at c.in_ok-breaks.ensures.breaks) c.in-Ok-None.field-0 c.in-Ok-None.ensures.follows
    c.breaks.new.self c.in_ok-breaks.ensures.blocks c.breaks.ensures.ran c.in-Ok-None.field-0-is

pub loop-place-preserved : goal.loop-place-preserved
loop-place-preserved c =
    step_last _ c.args.of.now c.of.view_is c.args.events.now c.loop-place.place c.loop-place.workers
    c.loop-place.blocks c.loop-place.invariant (record { kind = Claim; worker = 0 }) (omega arith) c.of.invariant
    c.step.new.self c.in-Ok-Some.ensures.fits c.in_ok-breaks.breaks
    (rw c.get-worker.ensures at c.in_ok-breaks.ensures.breaks) c.in-Ok-Some.field-0 c.in-Ok-Some.ensures.follows
    c.in-Ok-Some.block c.breaks.new.self c.end.new.self c.breaks.ensures.ran c.in-Ok-Some.field-0-is
    c.in_ok-end.ensures

pub returns-in-Err-clause-fault : goal.returns-in-Err-clause-fault
returns-in-Err-clause-fault c fault is =
    step_refused _ c.args.of.now c.of.view_is c.args.events.now c.loop-place.place c.loop-place.workers
    c.loop-place.blocks c.loop-place.invariant (record { kind = Claim; worker = 0 }) (omega arith) c.in-Err.fault fault
    (cc) c.in-Err.ensures.fault

pub returns-in-Ok-clause-left : goal.returns-in-Ok-clause-left
returns-in-Ok-clause-left c =
    rw c.into_ran.ensures (ended c.args.of.now c.args.events.now c.loop-place.place c.loop-place.workers
    c.loop-place.blocks (omega arith) c.loop-place.invariant c.in-Ok.ensures.ended)

pub returns-clause-fault : goal.returns-clause-fault
returns-clause-fault c fault is =
    unended c.args.of.now c.args.events.now c.loop-place.place c.loop-place.workers c.loop-place.blocks
    c.in-Err-end.fault fault (omega arith) c.loop-place.invariant c.in-Err-end.ensures.not_ended
    c.in-Err-end.ensures.fault (cc)
