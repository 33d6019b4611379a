use Rattle.std.proofs.Common.{◌≡◌, ℕ, ◌/◌, ◌<◌, ◌≤◌, true, false, get_or}
use Rattle.loop_core_undo.specs.Pages.{KeepsBefore}
use Rattle.loop_core_undo.proofs.undo_log.UndoLog.keep_run.Given as goal

abbrev pub invariant-loop-page : goal.invariant-loop-page
invariant-loop-page l = record {
  kept : KeepsBefore l.maps.words l.fn.self l.self;
  saved : (page : ℕ) → l.first / 64 ≤ page → page < l.page → get_or l.self.saved.items page false ≡ true;
}
