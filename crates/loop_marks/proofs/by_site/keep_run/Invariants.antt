use Rattle.std.proofs.Common.{◌≡◌, ℕ, ◌<◌, ◌≤◌, length, slice_index}
use Rattle.loop_marks.specs.SiteMarks.{kept, over_lanes, runs_on}
use Rattle.loop_marks.proofs.by_site.keep_run.Given as goal

abbrev pub invariant-loop-e : goal.invariant-loop-e
invariant-loop-e l = record {
  count : length l.numbers ≡ length l.fn.numbers;
  done : (k : ℕ) → k < l.e → slice_index l.numbers k
      ≡ over_lanes (kept l.greatest l.index) (runs_on l.halves l.first k) l.lanes (slice_index l.fn.numbers k);
  rest : (k : ℕ) → l.e ≤ k → slice_index l.numbers k ≡ slice_index l.fn.numbers k;
}
