use Rattle.std.proofs.Common.{refl}
use Rattle.array_maps.specs.Accesses.{Write}
use Rattle.private_copy.{specs.declared.reduction.Reduction.TheVariants.{Mixed}, proofs.AccessLaws.{leaves}}
use Rattle.private_copy.proofs.store.PrivateStore.store.Goals as goal

pub returns : goal.returns
returns c = record {
  done = leaves c.args.self.now c.admit.new.self c.keep.new.self c.args.e (Write c.args.value) c.args.value Mixed
      c.admit.ensures.admitted c.keep.ensures refl refl refl;
}
