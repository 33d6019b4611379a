-- Abstract values in records.
use Rattle.std.specs.Prelude.{ℕ, pos, ◌-ℤ◌, List, [], ◌++◌, codes}
use Rattle.value_range.specs.Spans.{Span}
use Rattle.bpf_verify_model.specs.declared.abstract_value.AbstractValue.{AbstractValue}
use Rattle.bpf_verify_model.specs.declared.abstract_value.AbstractValue.TheVariants as values
use Rattle.bpfspec_records.specs.Fields.{number, signed, wide, word}

-- a range: its least word, its greatest, and how many trailing zero bits each of its words has
unfoldable pub range_fields : Span → List ℕ
range_fields range =
    wide (codes "low") range.lo ++ wide (codes "high") range.hi ++ number (codes "shift") range.zeros

-- the name of what a value is
abbrev pub kind_word : AbstractValue → List ℕ
kind_word values.Unwritten = codes "unwritten"
kind_word (values.Number range) = codes "number"
kind_word (values.Frame position) = codes "frame"
kind_word (values.Ctx position) = codes "main_frame"
kind_word (values.Map map) = codes "map"
kind_word (values.Area map range) = codes "area"
kind_word (values.AreaOrNull map range) = codes "area_or_null"
kind_word (values.Code start) = codes "callback"

-- what is known of it: a range, the place of a byte from its frame's end, bytes of a map's values, or a start
unfoldable pub known_fields : AbstractValue → List ℕ
known_fields values.Unwritten = []
known_fields (values.Number range) = range_fields range
known_fields (values.Frame position) = signed (codes "offset") (pos position -ℤ pos 512)
known_fields (values.Ctx position) = signed (codes "offset") (pos position -ℤ pos 512)
known_fields (values.Map map) = number (codes "map") map
known_fields (values.Area map range) = number (codes "map") map ++ range_fields range
known_fields (values.AreaOrNull map range) = number (codes "map") map ++ range_fields range
known_fields (values.Code start) = number (codes "start") start

-- an abstract value
unfoldable pub value_fields : AbstractValue → List ℕ
value_fields value = word (codes "kind") (kind_word value) ++ known_fields value
