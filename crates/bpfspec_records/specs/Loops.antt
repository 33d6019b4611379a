-- The records of loops.
use Rattle.std.specs.Prelude.{ℕ, ◌+◌, List, [], ◌∷◌, ◌++◌, map}
use Rattle.loop_core_witness.specs.declared.explained.{Cause.{Cause}, Explained.{Explained}}
use Rattle.loop_core_witness.specs.declared.explained.LoopExplained.{LoopExplained}
use Rattle.bpfspec_records.specs.{declared.records.Record.{Record}, Elements.{map_of}, Grids.{shown_records}}
use Rattle.bpfspec_records.specs.declared.records.Record.TheVariants as records

-- why an element, which is one of a map, conflicts
abbrev pub pair_record : (sizes : List ℕ) → (number : ℕ) → Cause → Record
pair_record sizes number cause = records.Pair (record {
  number = number;
  map = (map_of sizes cause.element).0;
  element = (map_of sizes cause.element).1;
  pair = cause.witness;
  end = cause.end;
})

-- a loop call, then its pairs, then what is shown of it
abbrev pub call_records : (sizes : List ℕ) → (number : ℕ) → LoopExplained → List Record
call_records sizes number explained =
    records.Loop (record {
      number = number;
      line = explained.line;
      iterations = explained.iterations;
      flags = explained.flags;
      strategy = explained.strategy;
      broke = explained.broke;
    }) ∷ map (pair_record sizes number) explained.causes.items
    ++ shown_records sizes number explained.grid

-- loop calls from the one on that has this number
abbrev pub numbered_records : (sizes : List ℕ) → (number : ℕ) → List LoopExplained → List Record
numbered_records sizes number [] = []
numbered_records sizes number (explained ∷ loops) =
    call_records sizes number explained ++ numbered_records sizes (number + 1) loops

-- the loop calls of a program whose maps have these sizes, in order
abbrev pub loop_records : (sizes : List ℕ) → Explained → List Record
loop_records sizes explained = numbered_records sizes 0 explained.loops.items
