use Rattle.std.proofs.Common.{◌≡◌, ℕ, ◌+◌, ◌<◌, ◌≤◌, true, false}
use Rattle.lane_rows.specs.{Rows.{is_in}, Lanes.{MaskHas}}
use Rattle.loop_marks.proofs.by_site.end_of.Given as goal

abbrev pub invariant-loop-step : goal.invariant-loop-step
invariant-loop-step l = record {
  below : l.greatest ≡ false → MaskHas l.step (λ _. false) l.mask;
  above : l.greatest ≡ true → (lane : ℕ) → lane < l.lanes → l.lanes ≤ lane + l.step → is_in l.mask lane ≡ false;
}
