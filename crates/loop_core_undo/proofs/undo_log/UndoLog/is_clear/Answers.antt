use Rattle.std.proofs.Common.{◌≡◌, ℕ, ◌/◌, not, Bool, true, false, List, length, get_or, subst, ap, ◌∙◌, sym, arith}
use Rattle.loop_core_undo.proofs.UndoLaws.{pages_unset}
use Rattle.loop_core_undo.proofs.undo_log.UndoLog.is_clear.Goals as goal

pub returns-clause-clear : goal.returns-clause-clear
returns-clause-clear c =
    let len = c.len.ensures in
    let same : length c.deref.result.now ≡ length c.args.self.now.saved.items = ap length c.deref.ensures.value in
    let all : c.len.result ≡ length c.deref.result.now = omega (arith, len, same) in
    subst (λ (saved : List Bool). (not c.is_any_set.result ≡ true → (e : ℕ) → get_or saved (e / 64) false ≡ false)
    × (((e : ℕ) → get_or saved (e / 64) false ≡ false) → not c.is_any_set.result ≡ true)) c.deref.ensures.value
    (pages_unset c.deref.result.now c.len.result c.is_any_set.result all c.is_any_set.ensures)
