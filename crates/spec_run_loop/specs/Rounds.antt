-- Iterations of a loop that are added up at once.
use Rattle.std.specs.{Prelude.{ℕ, ◌+◌, ◌-◌, ◌*◌, min}, Int.{div_ceil}}
use Rattle.spec_run_loop.specs.declared.round.Round.{Round}

-- how many iterations a share of a round has, but for the last ones
abbrev pub share_size : Round → ℕ
share_size round = div_ceil (round.to - round.from) round.shares

-- where a share begins
abbrev pub share_start : Round → (share : ℕ) → ℕ
share_start round share = min (round.from + share * share_size round) round.to
