use Rattle.std.proofs.Common.{◌≡◌, ℕ, ◌<◌, false, get_or}
use Rattle.loop_core_undo.specs.Undo.{log_elements}
use Rattle.loop_core_undo.proofs.undo_log.UndoLog.clear.Given as goal

abbrev pub invariant-loop-page : goal.invariant-loop-page
invariant-loop-page l = record {
  count : log_elements l.self ≡ log_elements l.initial.self;
  cleared : (page : ℕ) → page < l.page → get_or l.self.saved.items page false ≡ false;
}
