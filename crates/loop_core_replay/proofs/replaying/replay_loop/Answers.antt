use Rattle.loop_core_gather.specs.declared.gathering.GatherError.TheVariants.{Fault}
use Rattle.loop_core_block.specs.Loops.{LoopOf, IsSpeculative}
use Rattle.loop_core_replay.proofs.EndLaws.{meets_none}
use Rattle.loop_core_replay.proofs.replaying.replay_loop.Goals as goal

pub unreachable-requires : goal.unreachable-requires
unreachable-requires c =
    let s : LoopOf = record {
      program = c.args.program.now;
      call = c.args.call.now;
      start = c.args.start.now;
      bounds = c.args.split.now;
      test = c.args.test;
    } in
    let is : IsSpeculative s = record { known = c.requires.known; sizes = c.requires.sizes; split = c.requires.split }
    in
    meets_none c.law_of_schedules.ensures s is c.args.events.now c.in_ok-ran.ran.items c.in_ok-ran.ensures.left
    c.gather.result Fault c.in-Err-Fault.field-0 c.in-Err-Fault.field-0-0
    c.in-Err-Fault.is c.in-Err-Fault.field-0-is c.gather.ensures.fault
