use Rattle.private_copy.proofs.AccessLaws.{reads}
use Rattle.private_copy.proofs.store.PrivateStore.load.Goals as goal

pub returns-clause-done : goal.returns-clause-done
returns-clause-done c =
    reads c.args.self.now c.admit-word.new.self c.mark_mixed.new.self c.args.e c.admit-word.result.1
    c.admit-word.ensures.admitted (rw c.admit-word.ensures.cell at c.mark_mixed.ensures) c.requires.within
