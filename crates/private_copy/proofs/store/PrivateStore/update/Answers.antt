use Rattle.std.proofs.Common.{refl}
use Rattle.array_maps.specs.Accesses.{Reduce}
use Rattle.private_copy.{proofs.AccessLaws.{leaves}}
use Rattle.private_copy.proofs.store.PrivateStore.update.Goals as goal

pub returns : goal.returns
returns c = record {
  done = leaves c.args.self.now c.admit-word.new.self c.keep.new.self c.args.e (Reduce c.args.op c.args.operand)
      c.combine.result c.with-reduction.result c.admit-word.ensures.admitted c.keep.ensures refl
      (rw c.admit-word.ensures.word at c.combine.ensures)
      (rw (c.reduction.ensures, c.admit-word.ensures.cell) at c.with-reduction.ensures);
}
