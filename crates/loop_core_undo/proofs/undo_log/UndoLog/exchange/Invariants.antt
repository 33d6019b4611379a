use Rattle.loop_core_undo.proofs.ExchangeLaws.{AreExchanged}
use Rattle.loop_core_undo.proofs.undo_log.UndoLog.exchange.Given as goal

abbrev pub invariant-loop-page : goal.invariant-loop-page
invariant-loop-page l = AreExchanged l.initial.self l.self l.initial.maps l.maps l.page
