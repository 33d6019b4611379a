-- The facts of an input: the list of records that `facts` prints of it.
use Rattle.std.specs.Prelude.{◌≡◌, ℕ, ◌+◌, Bool, true, false, if◌then◌else◌, List, [], ◌∷◌, ◌++◌, length, map, Result}
use Rattle.std.specs.{Prelude.{Ok, Err}, List.{range_with_len}}
use Rattle.array_maps.specs.MapList.{MapList}
use Rattle.bpf_insn_types.specs.{declared.insn.Insn.{Insn}, Program.{Program, callback_starts}}
use Rattle.bpf_text.specs.EventsText.{events_text}
use Rattle.loop_core_model.specs.declared.event.Event.{Event}
use Rattle.spec_run_replay.specs.ProgramReplay.{LoopReplay}
use Rattle.loop_core_witness.specs.declared.explained.Explained.{Explained}
use Rattle.spec_run_explain.specs.Programs.{IsProgramExplained}
use Rattle.bpfspec_command_line.specs.declared.job.{Ask.{Ask}, UnitForm.{UnitForm, TheVariants.{Assembler, Hex}}}
use Rattle.bpfspec_output.specs.declared.refusal.Refusal.{Refusal}
use Rattle.bpfspec_output.specs.declared.refusal.Section.TheVariants as sections
use Rattle.bpfspec_records.specs.{declared.records.Record.{Record}, Units.{unit_records}, Loops.{loop_records}}
use Rattle.bpfspec_records.specs.declared.records.Record.TheVariants as records
use Rattle.bpfspec_serve.specs.declared.{answer_error.AnswerError.{AnswerError}, serving.Served.{Served}}
use Rattle.bpfspec_serve.specs.{ExitStatus.{exit_status}, Sections.{unit_section, maps_section, events_section}}
use Rattle.bpfspec_serve.specs.Output.{IsReplayed, TextOutcome, accepted, function_numbered, in_section, judged}
use Rattle.bpfspec_serve.specs.Output.{maps_start_words, refused_as, text_answer, unit_program, verified}
use Rattle.bpfspec_serve.specs.declared.answer_error.AnswerError.TheVariants as errors
use Rattle.bpfspec_serve.specs.declared.program_end.ProgramEnd.TheVariants as ends

-- whether a unit is in hex form
abbrev pub is_hex : UnitForm → Bool
is_hex Assembler = false
is_hex Hex = true

-- what was asked
abbrev pub header : Ask → Record
header ask = records.Header (is_hex ask.form) ask.arg ask.test ask.states ask.all ask.grid

-- the refusal that an error is; memory has none
abbrev pub error_records : AnswerError → List Record
error_records (errors.Refused refusal) = records.Refusal refusal ∷ []
error_records errors.Memory = []

-- the same of what may be an error
abbrev pub error_records_of : {X : Type 0} → Result X AnswerError → List Record
error_records_of (Ok x) = []
error_records_of (Err error) = error_records error

-- an error is a refusal, whose record is added; an input that has it is served so
pub record AddsRefusal (error : AnswerError) (old new : List Record) (served : Served) : Type 0 where
  pub refusal : Refusal
  pub is : error ≡ errors.Refused refusal
  pub added : new ≡ old ++ records.Refusal refusal ∷ []
  pub served_as : served ≡ refused_as refusal

-- records of which this holds are added to others
pub record Adds (Are : List Record → Type 0) (old new : List Record) : Type 0 where
  pub more : List Record
  pub are : Are more
  pub added : new ≡ old ++ more

-- a function of an accepted program, by its number
abbrev pub function_record : List Insn → ℕ → Record
function_record insns number = records.Function number (function_numbered insns number)

-- main, and each callback
abbrev pub function_records : List Insn → List Record
function_records insns = map (function_record insns) (range_with_len 0 (length (callback_starts insns) + 1))

-- at most how many elements that conflict have a pair, of each loop
abbrev pub most_pairs : Ask → ℕ
most_pairs ask = if ask.all then 64 else 1

-- a program's first valid loop call is replayed from these start words, if the section of events is one
abbrev pub IsTried : Ask → Program → (words : List ℕ) → Result (List ℕ × List Event) AnswerError
    → Result LoopReplay AnswerError → Type 0
IsTried ask program words (Err error) replayed = replayed ≡ Err error
IsTried ask program words (Ok schedule) replayed = IsReplayed ask.test program ask.arg words schedule replayed

-- why that is refused with the bounds and events of a section; a section without a byte asks for no replay
abbrev pub AreReplayFacts : Ask → Program → (words events : List ℕ) → List Record → Type 0
AreReplayFacts ask program words [] facts = facts ≡ []
AreReplayFacts ask program words (b ∷ bs) facts =
    (replayed : Result LoopReplay AnswerError)
    × IsTried ask program words (in_section sections.Events (events_text (b ∷ bs))) replayed
    × (facts ≡ error_records_of replayed)

-- the loops of a program in order from these start words, whatever the events are; and then why its replay is refused
pub record HasRun (ask : Ask) (program : Program) (words events : List ℕ) (facts : List Record) : Type 0 where
  pub loops : Explained
  pub after : MapList
  pub explained : IsProgramExplained ask.test program (most_pairs ask) ask.grid ask.arg
      (record { sizes = program.sizes; words = words }) after loops
  pub replay : List Record
  pub replayed : AreReplayFacts ask program words events replay
  pub whole : facts ≡ loop_records program.sizes loops ++ replay

-- where the maps are refused, there is that in place of both
abbrev pub AreRunFacts : Ask → Program → (start : TextOutcome) → (events : List ℕ) → List Record → Type 0
AreRunFacts ask program (Err error) events facts = facts ≡ error_records error
AreRunFacts ask program (Ok words) events facts = HasRun ask program words events facts

-- the functions of an accepted unit, its maps and instructions, and its runs
pub record AreAccepted (ask : Ask) (program : Program) (maps events : List ℕ) (facts : List Record) : Type 0 where
  pub runs : List Record
  pub run : AreRunFacts ask program (maps_start_words program.sizes maps) events runs
  pub whole : facts ≡ function_records program.insns ++ (unit_records ask.states program ++ runs)

-- a unit is accepted, or it has a refusal, and then its maps and instructions
abbrev pub AreUnitFacts : Ask → Program → Result Program AnswerError → (maps events : List ℕ) → List Record → Type 0
AreUnitFacts ask unit (Err error) maps events facts = facts ≡ error_records error ++ unit_records ask.states unit
AreUnitFacts ask unit (Ok program) maps events facts = AreAccepted ask program maps events facts

-- a section is a unit, or it has a refusal alone
abbrev pub AreSectionFacts : Ask → Result Program AnswerError → (maps events : List ℕ) → List Record → Type 0
AreSectionFacts ask (Err error) maps events facts = facts ≡ error_records error
AreSectionFacts ask (Ok unit) maps events facts = AreUnitFacts ask unit (judged unit) maps events facts

-- an input can be read, or it has a refusal alone
abbrev pub AreInputFacts : Ask → TextOutcome → List Record → Type 0
AreInputFacts ask (Err error) facts = facts ≡ error_records error
AreInputFacts ask (Ok input) facts =
    AreSectionFacts ask (unit_program ask.form (unit_section input)) (maps_section input) (events_section input) facts

-- what `verify` answers to an input that can be read, or to one that can't
abbrev pub verify_outcome : UnitForm → TextOutcome → TextOutcome
verify_outcome form (Err error) = Err error
verify_outcome form (Ok input) = verified (accepted (unit_program form (unit_section input)))

-- and how it serves that
abbrev pub verify_served : UnitForm → TextOutcome → Served
verify_served form input = (text_answer (verify_outcome form input)).served

-- all facts: what was asked first, and the exit status of `verify` last
pub record AreFacts (ask : Ask) (input : TextOutcome) (facts : List Record) : Type 0 where
  pub body : List Record
  pub between : AreInputFacts ask input body
  pub whole : facts ≡ header ask ∷ body ++ records.End (exit_status (ends.Served (verify_served ask.form input))) ∷ []
