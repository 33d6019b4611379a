use Rattle.std.{proofs.Common.{refl}, specs.Prelude.{slice_index}}
use Rattle.array_maps.specs.Accesses.{ReadWrite, exchanged}
use Rattle.private_copy.specs.{declared.reduction.Reduction.TheVariants.{Mixed}, Shown.{copy_of}}
use Rattle.private_copy.proofs.AccessLaws.{leaves}
use Rattle.private_copy.proofs.store.PrivateStore.fetch.Goals as goal

pub returns-clause-done : goal.returns-clause-done
returns-clause-done c =
    let word = slice_index (copy_of c.args.self.now).words c.args.e in
    leaves c.args.self.now c.admit-old.new.self c.keep.new.self c.args.e
    (ReadWrite word (exchanged c.args.part c.args.rmw word c.args.value c.args.compare)) c.exchange.result Mixed
    c.admit-old.ensures.admitted c.keep.ensures refl (rw c.admit-old.ensures.word at c.exchange.ensures) refl
