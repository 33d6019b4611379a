use Rattle.std.{proofs.Common.{sym}}
use Rattle.private_copy.proofs.AccessLaws.{word_is, seen_own, seen_start}
use Rattle.private_copy.proofs.private.Private.admit.Goals as goal

pub returns-then-cell-self-clause-word : goal.returns-then-cell-self-clause-word
returns-then-cell-self-clause-word c =
    rw (word_is c.args.self.now c.args.e c.requires.within, ← c.visit-cell.ensures.cell)
    (sym (seen_own c.visit-cell.result c.args.self.now.begun _ c.if-cell-self.true))

pub returns-else-cell-self-clause-word : goal.returns-else-cell-self-clause-word
returns-else-cell-self-clause-word c =
    rw (word_is c.args.self.now c.args.e c.requires.within, ← c.visit-cell.ensures.cell)
    (sym (seen_start c.visit-cell.result c.args.self.now.begun _ c.if-cell-self.false))
