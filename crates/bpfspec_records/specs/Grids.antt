-- The records of grids.
use Rattle.std.specs.Prelude.{ℕ, Bool, ◌||◌, if◌then◌else◌, is_some, List, [], ◌∷◌, Option, Some, None}
use Rattle.std.specs.List.{flat_map}
use Rattle.loop_core_witness.specs.declared.grid.{Cell.{Cell}, Grid.{Grid}, Row.{Row}}
use Rattle.loop_core_trace.specs.declared.slots.Slots.{Slots}
use Rattle.bpfspec_records.specs.{declared.records.Record.{Record}, Elements.{map_of}}
use Rattle.bpfspec_records.specs.declared.records.Record.TheVariants as records

-- an iteration with these slots accesses the element: it writes it, or has an exposed read of it
abbrev pub accesses : Slots → Bool
accesses slots = is_some slots.write || is_some slots.read

-- what an iteration does at an element, which is one of a map, if it accesses the element
abbrev pub cell_records : (sizes : List ℕ) → (number iteration : ℕ) → Cell → List Record
cell_records sizes number iteration cell =
    if accesses cell.slots then records.Cell (record {
      number = number;
      iteration = iteration;
      map = (map_of sizes cell.element).0;
      element = (map_of sizes cell.element).1;
      slots = cell.slots;
    }) ∷ [] else []

-- the cells of an iteration, in their order
abbrev pub row_records : (sizes : List ℕ) → (number : ℕ) → Row → List Record
row_records sizes number row = flat_map (cell_records sizes number row.index) row.cells.items

-- the two spans of a grid of the loop call with this number, and then the cells of its iterations, in their order, if
-- there is a grid
abbrev pub shown_records : (sizes : List ℕ) → (number : ℕ) → Option Grid → List Record
shown_records sizes number None = []
shown_records sizes number (Some grid) = records.Grid (record {
  number = number;
  lower = grid.lower;
  upper = grid.upper;
}) ∷ flat_map (row_records sizes number) grid.rows.items
