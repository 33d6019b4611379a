use Rattle.std.proofs.Common.{◌≡◌, ℕ, ◌≤◌, ◌-◌, ◌||◌, length}
use Rattle.loop_core_model.specs.Planes.{bit_of}
use Rattle.shadow_marks.specs.Runs.{is_between}
use Rattle.loop_marks.proofs.by_site.set_run.Given as goal

abbrev pub invariant-loop-from : goal.invariant-loop-from
invariant-loop-from l = record {
  above : l.start ≤ l.from;
  below : l.from ≤ l.end;
  count : length l.words ≡ length l.fn.words;
  bits : (e : ℕ) → bit_of l.words e ≡ (bit_of l.fn.words e || is_between l.start l.from e);
}

abbrev pub decreases-loop-from : goal.decreases-loop-from
decreases-loop-from l = l.end - l.from
