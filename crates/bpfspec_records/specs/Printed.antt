-- The lines of records.
use Rattle.std.specs.Prelude.{ℕ, if◌then◌else◌, List, ◌++◌, codes, Some, None}
use Rattle.bpf_text_lex.specs.PrintedLines.{insn_spelling}
use Rattle.bpf_verify_origin.specs.declared.source.Source.{Source}
use Rattle.bpf_verify_origin.specs.declared.source.Source.TheVariants as sources
use Rattle.bpfspec_records.specs.{declared.records.Record.{Record}, Words.{frame_word, test_word}}
use Rattle.bpfspec_records.specs.Fields.{flag, number, object, optional, signed, wide, word}
use Rattle.bpfspec_records.specs.{Refusals.{printed_refusal}, Values.{value_fields}}
use Rattle.bpfspec_records.specs.LoopsPrinted.{printed_cell, printed_grid, printed_loop, printed_pair}
use Rattle.bpfspec_records.specs.declared.records.Record.TheVariants as records

-- where a value comes from, and the slot of it, if it has one
unfoldable pub source_fields : Source → List ℕ
source_fields sources.Start = word (codes "source") (codes "start") ++ optional (codes "at") None
source_fields (sources.Written slot) = word (codes "source") (codes "written") ++ optional (codes "at") (Some slot)
source_fields (sources.Entered slot) = word (codes "source") (codes "entered") ++ optional (codes "at") (Some slot)
source_fields (sources.Meeting slot) = word (codes "source") (codes "join") ++ optional (codes "at") (Some slot)

-- the line of a record
unfoldable pub printed : Record → List ℕ
printed (records.Header hex argument test states all grid) = object (codes "header")
    (number (codes "version") 1
    ++ word (codes "form") (if hex then codes "hex" else codes "text")
    ++ wide (codes "argument") argument
    ++ word (codes "test") (test_word test)
    ++ flag (codes "states") states
    ++ flag (codes "all") all
    ++ flag (codes "grid") grid)
printed (records.Refusal refusal) = printed_refusal refusal
printed (records.Function n function) = object (codes "function")
    (number (codes "function") n
    ++ number (codes "slot") function.start
    ++ number (codes "count") function.count)
printed (records.Map map elements) = object (codes "map")
    (number (codes "map") map
    ++ number (codes "elements") elements)
printed (records.Insn slot insn reached ahead aside) = object (codes "insn")
    (number (codes "slot") slot
    ++ word (codes "insn") (insn_spelling insn)
    ++ flag (codes "reached") reached
    ++ optional (codes "ahead") ahead
    ++ optional (codes "aside") aside)
printed (records.Value slot None register value) = object (codes "value")
    (number (codes "slot") slot
    ++ number (codes "register") register
    ++ value_fields value)
printed (records.Value slot (Some to) register value) = object (codes "edge")
    (number (codes "slot") slot
    ++ number (codes "to") to
    ++ number (codes "register") register
    ++ value_fields value)
printed (records.Read slot register source) = object (codes "read")
    (number (codes "slot") slot
    ++ number (codes "register") register
    ++ source_fields source)
printed (records.Unwritten slot frame offset) = object (codes "unwritten")
    (number (codes "slot") slot
    ++ word (codes "frame") (frame_word frame)
    ++ signed (codes "offset") offset)
printed (records.Loop fact) = printed_loop fact
printed (records.Pair fact) = printed_pair fact
printed (records.Grid fact) = printed_grid fact
printed (records.Cell fact) = printed_cell fact
printed (records.End status) = object (codes "end") (number (codes "status") status)
