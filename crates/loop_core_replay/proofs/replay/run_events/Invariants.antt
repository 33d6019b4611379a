use Rattle.loop_core_replay.proofs.EventLaws.{HasCome}
use Rattle.loop_core_replay.proofs.replay.run_events.Given as goal

abbrev pub invariant-loop-place : goal.invariant-loop-place
invariant-loop-place l = HasCome l.of l.events l.place l.workers l.blocks
