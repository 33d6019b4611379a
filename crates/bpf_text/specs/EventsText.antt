-- Events as a text: a first line `bounds` and numbers, then lines of words, each a letter and a worker.
use Rattle.std.specs.Prelude.{ℕ, ◌==◌, ◌&&◌, nat_lt, Bool, if◌then◌else◌, List, [], ◌∷◌, ◌++◌, length, drop}
use Rattle.std.specs.{Prelude.{slice_index, codes, Option, Some, None, is_some, Result, Ok, Err}, List.{list_all}}
use Rattle.bpf_text_lex.specs.{Lines.{contents_of}, Numbers.{is_number, number_in}, Words.{words_of}}
use Rattle.bpf_text_lex.specs.Fields.{fields_after}
use Rattle.bpf_text_lex.specs.declared.text_error.{TextFault.{TextFault}, TextError.{TextError}}
use Rattle.bpf_text_lex.specs.Refusals.{at_line, with_first_item, ◌>>=◌}
use Rattle.bpf_text_lex.specs.declared.text_error.TextFault.TheVariants as faults
use Rattle.bpf_text_lex.specs.declared.text_error.TextError.TheVariants as errors
use Rattle.loop_core_model.specs.declared.event.{EventKind.{EventKind}, Event.{Event}}
use Rattle.loop_core_model.specs.declared.event.EventKind.TheVariants as kind

-- the kind that a letter denotes
abbrev pub event_kind_at : ℕ → Option EventKind
event_kind_at letter =
    if letter == 99 then Some kind.Claim
    else if letter == 108 then Some kind.Look
    else if letter == 116 then Some kind.Turn
    else if letter == 112 then Some kind.Post
    else if letter == 115 then Some kind.Stop
    else None

-- whether a word is a letter of a kind and a number of any size
abbrev pub is_event : List ℕ → Bool
is_event word = is_some (event_kind_at (slice_index word 0)) && is_number (drop 1 word)

-- an event of a kind and a worker
abbrev pub event_of_kind : Option EventKind → Result ℕ TextFault → Result Event TextFault
event_of_kind None worker = Err faults.Form
event_of_kind (Some k) (Err fault) = Err fault
event_of_kind (Some k) (Ok worker) = Ok (record { kind = k; worker = worker })

-- the event of a word: its letter, and a worker of 0 to 255
abbrev pub event_at : List ℕ → Result Event TextFault
event_at word = event_of_kind (event_kind_at (slice_index word 0)) (number_in 255 (drop 1 word))

-- the events of words
abbrev pub events_in : List (List ℕ) → Result (List Event) TextFault
events_in [] = Ok []
events_in (word ∷ words) = with_first_item (event_at word) (events_in words)

-- the same, where a word that is no event comes before a worker outside its field
abbrev pub events_of : List (List ℕ) → Result (List Event) TextFault
events_of words = if list_all is_event words then events_in words else Err faults.Form

-- the events of earlier lines, and those of these lines after them
unfoldable pub events_behind : List Event → List (ℕ × List ℕ) → Result (List Event) TextError
events_behind before [] = Ok before
events_behind before (line ∷ lines) = do
  events ← at_line line.0 (events_of (words_of line.1))
  events_behind (before ++ events) lines

-- the bounds and events that lines give, the first of which has the bounds
unfoldable pub schedule_of : List (ℕ × List ℕ) → Result (List ℕ × List Event) TextError
schedule_of [] = Err (errors.Refused faults.Form 0)
schedule_of (line ∷ lines) = do
  bounds ← at_line line.0 (fields_after (codes "bounds") (words_of line.1))
  events ← events_behind [] lines
  Ok (bounds, events)

-- what an events text means
abbrev pub events_text : List ℕ → Result (List ℕ × List Event) TextError
events_text text = if nat_lt 1048576 (length text) then Err (errors.Refused faults.TooLong 0)
    else schedule_of (contents_of text)
