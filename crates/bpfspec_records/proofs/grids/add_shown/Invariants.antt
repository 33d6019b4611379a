use Rattle.std.{proofs.Common.{◌≡◌, ◌++◌, drop}, specs.List.{flat_map}}
use Rattle.bpfspec_records.specs.Grids.{row_records, shown_records}
use Rattle.bpfspec_records.proofs.grids.add_shown.Given as goal

abbrev pub invariant-loop-row : goal.invariant-loop-row
invariant-loop-row l = l.records.items ++ flat_map (row_records l.sizes l.number) (drop l.row-index l.rows)
    ≡ l.fn.records.items ++ shown_records l.sizes l.number l.shown
