-- The records of loops.
use Rattle.std.specs.Prelude.{ℕ, List, ◌++◌, codes, Option, Some, None, option_map}
use Rattle.loop_core_model.specs.declared.verdict.Verdict.{Verdict, TheVariants.{Parallel, Conflict}}
use Rattle.loop_core_trace.specs.declared.slots.FirstReduce.{FirstReduce}
use Rattle.loop_core_witness.specs.declared.place.Place.{Place}
use Rattle.loop_core_split.specs.declared.strategy.Strategy.{Strategy}
use Rattle.loop_core_split.specs.declared.strategy.Strategy.TheVariants as strategies
use Rattle.bpfspec_records.specs.declared.loop_facts.{LoopFact.{LoopFact}, PairFact.{PairFact}, GridFact.{GridFact}}
use Rattle.bpfspec_records.specs.{declared.loop_facts.CellFact.{CellFact}, Words.{blocks_word, verdict_word}}
use Rattle.bpfspec_records.specs.Fields.{number, object, optional, signed, wide, word}

-- how many elements conflict
abbrev pub conflict_count : Verdict → Option ℕ
conflict_count Parallel = Some 0
conflict_count (Conflict count least) = Some count
conflict_count _ = None

-- the fields of a way: its word, its blocks, if it goes by blocks, its workers, and why a loop goes so
unfoldable pub strategy_fields : (way : List ℕ) → (blocks : Option ℕ) → (workers : ℕ) → (reason : List ℕ) → List ℕ
strategy_fields way blocks workers reason = word (codes "way") way ++ optional (codes "blocks") blocks
    ++ number (codes "workers") workers ++ word (codes "reason") reason

-- which way a loop goes; none that is refused
unfoldable pub way_fields : Option Strategy → List ℕ
way_fields None = optional (codes "way") None ++ optional (codes "blocks") None ++ optional (codes "workers") None
    ++ optional (codes "reason") None
way_fields (Some strategies.InOrder) = strategy_fields (codes "in_order") None 1 (codes "asked")
way_fields (Some (strategies.Sums workers)) = strategy_fields (codes "sums") None workers (codes "only_reduces")
way_fields (Some strategies.Watched) = strategy_fields (codes "watched") None 1 (codes "reads_nothing_written")
way_fields (Some (strategies.Blocks blocks workers why)) =
    strategy_fields (codes "blocks") (Some blocks) workers (blocks_word why)

-- an iteration and a slot in it, if there are any
unfoldable pub place_fields : (index slot : List ℕ) → Option Place → List ℕ
place_fields index slot None = optional index None ++ optional slot None
place_fields index slot (Some place) = number index place.index ++ number slot place.slot

-- a call of a loop
unfoldable pub printed_loop : LoopFact → List ℕ
printed_loop fact = object (codes "loop")
    (number (codes "loop") fact.number
    ++ number (codes "slot") fact.line.slot
    ++ number (codes "iterations") fact.iterations
    ++ wide (codes "flags") fact.flags
    ++ signed (codes "answer") fact.line.answer
    ++ word (codes "verdict") (verdict_word fact.line.verdict)
    ++ optional (codes "conflicts") (conflict_count fact.line.verdict)
    ++ way_fields fact.strategy
    ++ place_fields (codes "break_iteration") (codes "break_slot") fact.broke)

-- two iterations that fail the test at an element
unfoldable pub printed_pair : PairFact → List ℕ
printed_pair fact = object (codes "pair")
    (number (codes "loop") fact.number
    ++ number (codes "map") fact.map
    ++ number (codes "element") fact.element
    ++ place_fields (codes "writer") (codes "writer_slot") (Some fact.pair.writer)
    ++ place_fields (codes "reader") (codes "reader_slot") (Some fact.pair.reader)
    ++ place_fields (codes "end") (codes "end_slot") fact.end)

-- the iterations that a picture shows
unfoldable pub printed_grid : GridFact → List ℕ
printed_grid fact = object (codes "grid")
    (number (codes "loop") fact.number
    ++ number (codes "lower") fact.lower.from
    ++ number (codes "lower_past") fact.lower.past
    ++ number (codes "upper") fact.upper.from
    ++ number (codes "upper_past") fact.upper.past)

-- what an iteration does at an element
unfoldable pub printed_cell : CellFact → List ℕ
printed_cell fact = object (codes "cell")
    (number (codes "loop") fact.number
    ++ number (codes "iteration") fact.iteration
    ++ number (codes "map") fact.map
    ++ number (codes "element") fact.element
    ++ optional (codes "write") fact.slots.write
    ++ optional (codes "read") fact.slots.read
    ++ optional (codes "reduce") (option_map (λ (first : FirstReduce). first.slot) fact.slots.reduce))
