-- What iterations of a loop call do at elements.
use Rattle.std.specs.{Prelude.{◌≡◌, ℕ, min, List, ◌++◌, map, Option}, List.{AllByRecursion}}
use Rattle.bpf_insn_types.specs.Program.{Program}
use Rattle.bpf_step_model.specs.{State.{LoopCall}, Run.{Ended}, Iteration.{Iterated, iteration}}
use Rattle.loop_core_trace.specs.Traced.{AreSlots}
use Rattle.loop_core_witness.specs.declared.{focus.Focus.{Focus}, grid.{Cell.{Cell}, Row.{Row}}}
use Rattle.loop_core_witness.specs.{declared.grid.Grid.{Grid}, Touching.{AreTouched}}
use Rattle.loop_core_witness.specs.Choosing.{spans_of, indices_of, shown_elements}

-- on these words the iteration of an index ends, and a cell has its slots at the cell's element
pub record IsCell (program : Program) (call : LoopCall) (words : List ℕ) (index : ℕ) (cell : Cell) : Type 0 where
  pub iterated : Iterated
  pub ended : iteration program 4096 call index words ≡ Ended iterated
  pub slots : AreSlots program call index words cell.element iterated.accesses cell.slots

-- the elements of cells
abbrev pub elements_of : List Cell → List ℕ
elements_of cells = map (λ (cell : Cell). cell.element) cells

-- a row has a cell of its iteration for each of these elements, in this order
pub record IsGridRow (program : Program) (call : LoopCall) (words elements : List ℕ) (row : Row) : Type 0 where
  pub columns : elements_of row.cells.items ≡ elements
  pub cells : AllByRecursion (IsCell program call words row.index) row.cells.items

-- each row is so
abbrev pub AreRows : Program → LoopCall → (words elements : List ℕ) → List Row → Type 0
AreRows program call words elements rows = AllByRecursion (IsGridRow program call words elements) rows

-- the indices of rows
abbrev pub indices : List Row → List ℕ
indices rows = map (λ (row : Row). row.index) rows

-- a grid of the first `count` iterations of a loop call on these words, or of all, around a focus: its spans are those
-- that are shown of them; its columns are the elements that are shown of those that these access; its rows are the
-- iterations, and each row has its iteration's cells
pub record IsGrid (program : Program) (call : LoopCall) (words : List ℕ) (count : ℕ) (focus : Option Focus)
    (grid : Grid) : Type 0 where
  pub spans : (grid.lower, grid.upper) ≡ spans_of (min count call.n) focus
  pub accessed : List ℕ
  pub touched : AreTouched program call words grid.lower grid.upper accessed
  pub columns : grid.elements.items ≡ shown_elements focus accessed
  pub iterations : indices grid.rows.items ≡ indices_of grid.lower ++ indices_of grid.upper
  pub rows : AreRows program call words grid.elements.items grid.rows.items
