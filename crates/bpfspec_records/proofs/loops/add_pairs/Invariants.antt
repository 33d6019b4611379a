use Rattle.std.{proofs.Common.{◌≡◌, ◌++◌, drop}, specs.Prelude.{map}}
use Rattle.bpfspec_records.specs.Loops.{pair_record}
use Rattle.bpfspec_records.proofs.loops.add_pairs.Given as goal

abbrev pub invariant-loop-cause : goal.invariant-loop-cause
invariant-loop-cause l = l.records.items ++ map (pair_record l.sizes l.number) (drop l.cause-index l.causes)
    ≡ l.initial.records.items ++ map (pair_record l.sizes l.number) l.causes
