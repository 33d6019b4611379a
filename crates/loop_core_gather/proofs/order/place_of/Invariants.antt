use Rattle.std.{proofs.Common.{◌≡◌, drop, map}, specs.{Prelude.{◌==◌}, List.{position_from}}}
use Rattle.loop_core_block.specs.Shown.{shown}
use Rattle.loop_core_gather.specs.Counting.{place_of}
use Rattle.loop_core_gather.proofs.order.place_of.Given as goal

-- it isn't before
abbrev pub invariant-loop-place : goal.invariant-loop-place
invariant-loop-place l = place_of (map shown l.blocks) l.number
    ≡ position_from (λ b. b.number == l.number) l.place (map shown (drop l.place l.blocks))
