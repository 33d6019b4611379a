use Rattle.std.{proofs.Common.{refl}, specs.Prelude.{slice_index}}
use Rattle.array_maps.specs.{Accesses.{ReadWrite}, Halves.{with_half}}
use Rattle.private_copy.specs.{declared.reduction.Reduction.TheVariants.{Mixed}, Shown.{copy_of}}
use Rattle.private_copy.proofs.AccessLaws.{leaves}
use Rattle.private_copy.proofs.store.PrivateStore.store_half.Goals as goal

pub returns : goal.returns
returns c =
    let word = slice_index (copy_of c.args.self.now).words c.args.e in
    record {
      done = leaves c.args.self.now c.admit-word.new.self c.keep.new.self c.args.e
          (ReadWrite word (with_half c.args.half word c.args.value)) c.with_half.result Mixed
          c.admit-word.ensures.admitted c.keep.ensures refl (rw c.admit-word.ensures.word at c.with_half.ensures) refl;
    }
