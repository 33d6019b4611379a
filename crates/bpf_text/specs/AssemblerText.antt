-- What the lines of a unit's assembler text mean.
use Rattle.std.specs.Prelude.{◌≡◌, ℕ, ◌+◌, ◌-◌, ◌==◌, ◌&&◌, nat_lt, nat_le, Bool, if◌then◌else◌, List, [], ◌∷◌, ◌++◌}
use Rattle.std.specs.{Prelude.{length, take, slice_index, Option, Some, None, Result, Ok, Err}, Str.{bytes_eq}}
use Rattle.std.specs.Option.{option_or}
use Rattle.bpf_insn_types.specs.{declared.insn.Insn.{Insn}, Program.{Program, slot_count}, Slots.{slots_of}}
use Rattle.bpf_insn_types.specs.Outcome.{RefusalMatches}
use Rattle.bpf_text_lex.specs.{Lines.{contents_of}, Names.{is_name}, Words.{words_of}, Head.{head_of}}
use Rattle.bpf_text_lex.specs.declared.text_error.{TextFault.{TextFault}, TextError.{TextError}}
use Rattle.bpf_text_lex.specs.Refusals.{at_line, ◌>>=◌, text_refusal}
use Rattle.bpf_text_lex.specs.declared.text_error.TextFault.TheVariants as faults
use Rattle.bpf_text_lex.specs.declared.text_error.TextError.TheVariants as errors
use Rattle.bpf_text_operands.specs.{declared.labels.Label.{Label}, LabelTable.{slot_in}}
use Rattle.bpf_text_operands.specs.Statements.{insn_of_line, slots_at}

-- the name of a label line: the line without its last byte
abbrev pub name_of : List ℕ → List ℕ
name_of line = take (length line - 1) line

-- a label line is a name and a colon, 58
abbrev pub is_label : List ℕ → Bool
is_label line = (slice_index line (length line - 1) == 58) && is_name (name_of line)

-- how many slots a line takes; a label takes none
abbrev pub line_slots : List ℕ → ℕ
line_slots line = if is_label line then 0 else slots_at line

-- where a line of this number at this slot defines a name
abbrev pub line_label : (slot number : ℕ) → (line name : List ℕ) → Option Label
line_label slot number line name =
    if is_label line then (if bytes_eq name (name_of line) then Some (record { line = number; slot = slot }) else None)
    else None

-- where lines, the first of which is at this slot, define a name: the first label of that name
unfoldable pub labels_from : ℕ → List (ℕ × List ℕ) → List ℕ → Option Label
labels_from slot [] name = None
labels_from slot (line ∷ lines) name =
    option_or (line_label slot line.0 line.1 name) (labels_from (slot + line_slots line.1) lines name)

-- a label line gives no instruction; it may not repeat the label of another line
abbrev pub label_at : ℕ → Option Label → Result (List Insn) TextFault
label_at number None = Ok []
label_at number (Some label) = if label.line == number then Ok [] else Err faults.RepeatedLabel

-- an instruction at a slot has to end within 4,096 slots
abbrev pub in_limit : ℕ → Result Insn TextFault → Result (List Insn) TextFault
in_limit slot (Err fault) = Err fault
in_limit slot (Ok i) = if nat_le (slot + slots_of i) 4096 then Ok (i ∷ []) else Err faults.TooLong

-- the instruction that a line of this number gives at a slot, if it gives one, where labels are defined so
abbrev pub line_at : (List ℕ → Option Label) → (slot number : ℕ) → List ℕ → Result (List Insn) TextFault
line_at labels slot number line =
    if is_label line then label_at number (labels (name_of line))
    else in_limit slot (insn_of_line (λ name. slot_in (labels name)) slot line)

-- the instructions of earlier lines, and those of these lines after them
unfoldable pub insns_behind : (List ℕ → Option Label) → List Insn → List (ℕ × List ℕ) → Result (List Insn) TextError
insns_behind labels before [] = Ok before
insns_behind labels before (line ∷ lines) = do
  more ← at_line line.0 (line_at labels (slot_count before) line.0 line.1)
  insns_behind labels (before ++ more) lines

-- the unit that lines give, the first of which is the head; labels are those of all lines
unfoldable pub unit_of : List (ℕ × List ℕ) → Result Program TextError
unit_of [] = Err (errors.Refused faults.Form 0)
unit_of (head ∷ lines) = do
  sizes ← at_line head.0 (head_of (words_of head.1))
  insns ← insns_behind (labels_from 0 lines) [] lines
  Ok (record { sizes = sizes; insns = insns })

-- what a unit's assembler text means
abbrev pub assembler_text : List ℕ → Result Program TextError
assembler_text text = if nat_lt 1048576 (length text) then Err (errors.Refused faults.TooLong 0)
    else unit_of (contents_of text)

-- what adding a line's instructions after others leaves, where the line has this meaning and is at a slot: them,
-- and the slot after them, or the refusal
abbrev pub Adds : (old new : List Insn) → ℕ → Result ℕ TextError → Result (List Insn) TextError → Type 0
Adds old new slot (Ok next) meaning = (more : List Insn) × (meaning ≡ Ok more) × (new ≡ old ++ more)
    × (next ≡ slot + slot_count more)
Adds old new slot (Err e) meaning = RefusalMatches (text_refusal e) meaning
