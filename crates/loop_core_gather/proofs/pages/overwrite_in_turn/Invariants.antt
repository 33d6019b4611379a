use Rattle.std.{proofs.Common.{◌≡◌, ℕ, ◌+◌, ◌*◌, ◌<◌, ◌≤◌, false}, specs.Prelude.{slice_index}}
use Rattle.loop_core_gather.proofs.ChoiceLaws.{KeptSoFar}
use Rattle.loop_core_gather.proofs.pages.overwrite_in_turn.Given as goal

-- the elements of the page are set by the blocks so far
abbrev pub invariant-loop-i : goal.invariant-loop-i
invariant-loop-i l = record {
  each : (k : ℕ) → k < 64 → l.page * 64 + k < l.elements
      → KeptSoFar false (l.page * 64 + k) l.blocks l.places (slice_index l.fn.own k) (slice_index l.own k) l.i;
  past : (k : ℕ) → l.elements ≤ l.page * 64 + k → slice_index l.own k ≡ slice_index l.fn.own k;
}
