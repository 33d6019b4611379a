use Rattle.std.proofs.Common.{◌≡◌, replicate, None}
use Rattle.loop_core_replay.proofs.blocks.Blocks.try_new.Given as goal

abbrev pub invariant-loop : goal.invariant-loop
invariant-loop l = l.under_way.items ≡ replicate l.counter None
