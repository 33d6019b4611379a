use Rattle.std.proofs.Common.{◌≡◌, ◌++◌, drop}
use Rattle.bpfspec_records.specs.Loops.{loop_records, numbered_records}
use Rattle.bpfspec_records.proofs.loops.loop_records.Given as goal

abbrev pub invariant-loop-number : goal.invariant-loop-number
invariant-loop-number l =
    l.records.items ++ numbered_records l.sizes l.number (drop l.number l.loops) ≡ loop_records l.sizes l.explained
