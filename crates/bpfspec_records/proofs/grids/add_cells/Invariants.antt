use Rattle.std.{proofs.Common.{◌≡◌, ◌++◌, drop}, specs.List.{flat_map}}
use Rattle.bpfspec_records.specs.Grids.{cell_records}
use Rattle.bpfspec_records.proofs.grids.add_cells.Given as goal

abbrev pub invariant-loop-cell : goal.invariant-loop-cell
invariant-loop-cell l =
    l.records.items ++ flat_map (cell_records l.sizes l.number l.iteration) (drop l.cell-index l.cells)
    ≡ l.initial.records.items ++ flat_map (cell_records l.sizes l.number l.iteration) l.cells
