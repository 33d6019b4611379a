use Rattle.std.{proofs.Common.{◌≡◌, ◌*◌, ◌/◌}, specs.{Prelude.{map}, List.{range_with_len}}}
use Rattle.loop_core_split.proofs.split.Split.even.Given as goal

-- the bounds so far
abbrev pub invariant-loop-k : goal.invariant-loop-k
invariant-loop-k l = l.bounds.items ≡ map (λ k. k * l.n / l.blocks) (range_with_len 0 l.k)
