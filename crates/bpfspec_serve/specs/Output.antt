-- What is answered to an input.
use Rattle.std.specs.Prelude.{◌≡◌, ℕ, ◌+◌, nat_lt, nat_eq, if◌then◌else◌, List, [], ◌∷◌, length, map, replicate, Option}
use Rattle.std.specs.{Prelude.{Some, None, Result, Ok, Err}, Cmp.Lexicographic.{pointwise}, Str.{is_utf8}}
use Rattle.std.specs.List.{concat, range_with_len, sum}
use Rattle.bpf_insn_types.specs.{declared.insn.Insn.{Insn}, Program.{Program, callback_starts}}
use Rattle.bpf_insn.specs.{declared.codec_error.CodecError.{CodecError}, Reading.{reading}}
use Rattle.bpf_insn.specs.declared.codec_error.CodecError.TheVariants as codec
use Rattle.bpf_text_lex.specs.declared.text_error.TextError.{TextError}
use Rattle.bpf_text_lex.specs.declared.text_error.TextFault.TheVariants as text_faults
use Rattle.bpf_text_lex.specs.declared.text_error.TextError.TheVariants as text
use Rattle.bpf_text.specs.{HexText.{SizesAndBytes, hex_text}, PrintedUnits.{hex_form, assembler_form}}
use Rattle.bpf_text.specs.{AssemblerText.{assembler_text}, MapsText.{maps_text}, EventsText.{events_text}}
use Rattle.array_maps.specs.MapList.{lengths}
use Rattle.bpf_step_model.specs.Run.{BoundedResult, Ended}
use Rattle.loop_core_model.specs.{declared.loop_test.Test.{Test}, Report.{Reported, report, report_in_order}}
use Rattle.loop_core_model.specs.declared.event.Event.{Event}
use Rattle.spec_run_replay.specs.declared.replaying.{Replayed.{Replayed}, ReplayRefusal.{ReplayRefusal}}
use Rattle.spec_run_replay.specs.ProgramReplay.{LoopReplay, ReplaysFrom}
use Rattle.spec_run_replay.specs.declared.replaying.ReplayRefusal.TheVariants as replays
use Rattle.loop_core_split.specs.{declared.plan.Plan.{Plan}, Plans.{IsPlan}}
use Rattle.bpfspec_command_line.specs.declared.job.Mode.{Mode, TheVariants.{Verify, Order, Replay, Asm, Disasm}}
use Rattle.bpfspec_command_line.specs.declared.job.UnitForm.{UnitForm, TheVariants.{Assembler, Hex}}
use Rattle.bpfspec_output.specs.declared.{accepted.Function.{Function}, refusal.{Section.{Section}, Refusal.{Refusal}}}
use Rattle.bpfspec_output.specs.ReportText.{accepted_text, report_text, replay_text}
use Rattle.bpfspec_output.specs.Refusals.{refusal_line, memory_line}
use Rattle.bpfspec_output.specs.declared.refusal.Section.TheVariants as sections
use Rattle.bpfspec_output.specs.declared.refusal.Refusal.TheVariants as refusals
use Rattle.bpfspec_serve.specs.declared.{answer_error.AnswerError.{AnswerError}, serving.Served.{Served}}
use Rattle.bpfspec_serve.specs.Sections.{unit_section, maps_section, events_section}
use Rattle.bpfspec_serve.specs.declared.answer_error.AnswerError.TheVariants as errors
use Rattle.bpfspec_serve.specs.declared.serving.Served.TheVariants as served
use Rattle.bpf_verify_model.specs.{Accepted.{BrokenRule, first_fault}, Count.{function_start, count_of}}

-- what comes of an input: a text, or an error
abbrev pub TextOutcome : Type 0
TextOutcome = Result (List ℕ) AnswerError

-- a refusal instead of a value
abbrev pub refused : {X : Type 0} → Refusal → Result X AnswerError
refused refusal = Err (errors.Refused refusal)

-- the error of a section's text
abbrev pub text_error : Section → TextError → AnswerError
text_error section (text.Refused fault line) = errors.Refused (refusals.Text fault section line)
text_error section text.Memory = errors.Memory

-- what a section's text means
abbrev pub in_section : {X : Type 0} → Section → Result X TextError → Result X AnswerError
in_section section (Ok x) = Ok x
in_section section (Err error) = Err (text_error section error)

-- the error of a program's bytes
abbrev pub codec_error : CodecError → AnswerError
codec_error (codec.Refused fault slot) = errors.Refused (refusals.Codec fault slot)
codec_error codec.Memory = errors.Memory

-- the program of sizes and instructions
abbrev pub with_sizes : List ℕ → Result (List Insn) CodecError → Result Program AnswerError
with_sizes sizes (Ok insns) = Ok (record { sizes = sizes; insns = insns })
with_sizes sizes (Err error) = Err (codec_error error)

-- the program of a unit in hex form
abbrev pub of_hex : Result SizesAndBytes AnswerError → Result Program AnswerError
of_hex (Err error) = Err error
of_hex (Ok parts) = with_sizes parts.sizes (reading parts.bytes)

-- the program of a section
abbrev pub unit_program : UnitForm → List ℕ → Result Program AnswerError
unit_program Assembler section = in_section sections.Unit (assembler_text section)
unit_program Hex section = of_hex (in_section sections.Unit (hex_text section))

-- a text of a unit, where its instructions have bytes
abbrev pub as_outcome : Result (List ℕ) CodecError → TextOutcome
as_outcome (Ok text) = Ok text
as_outcome (Err error) = Err (codec_error error)

-- a unit in the other form
abbrev pub written : UnitForm → Result Program AnswerError → TextOutcome
written form (Err error) = Err error
written Assembler (Ok program) = as_outcome (assembler_form program)
written Hex (Ok program) = as_outcome (hex_form program)

-- a function of a program, by its number: where it starts, and the most instructions that it takes
abbrev pub function_numbered : List Insn → ℕ → Function
function_numbered insns number = record { start = function_start insns number; count = count_of insns number }

-- the functions of a program: main, and each callback
abbrev pub functions_of : List Insn → List Function
functions_of insns = map (function_numbered insns) (range_with_len 0 (length (callback_starts insns) + 1))

-- a program that breaks no rule, or the refusal by its first fault
abbrev pub unless_rule_broken : Program → Option BrokenRule → Result Program AnswerError
unless_rule_broken program None = Ok program
unless_rule_broken program (Some fault) = refused (refusals.Rule fault.rule fault.slot)

-- the program of a unit, if it breaks no rule
unfoldable pub judged : Program → Result Program AnswerError
judged unit = unless_rule_broken unit (first_fault unit)

-- a section's program, where it is accepted
abbrev pub accepted : Result Program AnswerError → Result Program AnswerError
accepted (Err error) = Err error
accepted (Ok unit) = judged unit

-- the answer on an accepted program lists its functions
abbrev pub verified : Result Program AnswerError → TextOutcome
verified (Err error) = Err error
verified (Ok program) = Ok (accepted_text (functions_of program.insns))

-- values as the start words of maps of these sizes
abbrev pub fitting : List ℕ → Result (List (List ℕ)) AnswerError → TextOutcome
fitting sizes (Err error) = Err error
fitting sizes (Ok values) = if pointwise nat_eq (lengths values) sizes then Ok (concat values)
    else refused refusals.Sizes

-- the words that maps start with: without a section all are 0
abbrev pub maps_start_words : List ℕ → List ℕ → TextOutcome
maps_start_words sizes [] = Ok (replicate (sum sizes) 0)
maps_start_words sizes (b ∷ bs) = fitting sizes (in_section sections.Maps (maps_text (b ∷ bs)))

-- what is reported of a program is printed
abbrev pub IsPrinted : Program → BoundedResult Reported → TextOutcome → Type 0
IsPrinted program reported outcome = (report : Reported) × (reported ≡ Ended report)
    × (outcome ≡ Ok (report_text program.sizes report))

-- a program runs in order from its start words, at most 4,096 instructions up to each turn of main and in each
-- iteration
abbrev pub PrintsReportInOrder : Program → ℕ → TextOutcome → TextOutcome → Type 0
PrintsReportInOrder program argument (Err error) outcome = outcome ≡ Err error
PrintsReportInOrder program argument (Ok words) outcome =
    IsPrinted program (report_in_order program 4096 argument words) outcome

-- an accepted program runs in order on the maps of a section
abbrev pub OfOrder : Result Program AnswerError → ℕ → List ℕ → TextOutcome → Type 0
OfOrder (Err error) argument maps outcome = outcome ≡ Err error
OfOrder (Ok program) argument maps outcome = PrintsReportInOrder program argument (maps_start_words program.sizes maps)
    outcome

-- a program runs from its start words, its loops by a plan: what is printed is the report of the program in order,
-- with the verdicts of the plan's test, and nothing else of the plan occurs in it; one outside its limits is refused
abbrev pub PrintsReportByPlan : Program → ℕ → Plan → TextOutcome → TextOutcome → Type 0
PrintsReportByPlan program argument plan (Err error) outcome = outcome ≡ Err error
PrintsReportByPlan program argument plan (Ok words) outcome =
    (IsPlan plan → IsPrinted program (report plan.test program 4096 argument words) outcome)
    × (¬ IsPlan plan → outcome ≡ refused refusals.Plan)

-- an accepted program runs by a plan on the maps of a section
abbrev pub OfRun : Result Program AnswerError → ℕ → Plan → List ℕ → TextOutcome → Type 0
OfRun (Err error) argument plan maps outcome = outcome ≡ Err error
OfRun (Ok program) argument plan maps outcome =
    PrintsReportByPlan program argument plan (maps_start_words program.sizes maps) outcome

-- the refusal of a replay
abbrev pub replay_refusal : ReplayRefusal → Refusal
replay_refusal replays.NoLoop = refusals.NoLoop
replay_refusal (replays.Split fault) = refusals.Split fault
replay_refusal (replays.Schedule fault) = refusals.Schedule fault

-- what comes of a replay, or its refusal
abbrev pub or_refusal : Result LoopReplay ReplayRefusal → Result LoopReplay AnswerError
or_refusal (Ok replayed) = Ok replayed
or_refusal (Err refusal) = refused (replay_refusal refusal)

-- a loop that was replayed, as what comes of it
abbrev pub loop_replay : Replayed → LoopReplay
loop_replay r = record { number = r.number; report = r.report; words = r.maps.words }

-- a program runs in order from its start words up to its first valid loop call, which is replayed with bounds and
-- events
abbrev pub IsReplayed : Test → Program → (argument : ℕ) → (words : List ℕ) → (schedule : List ℕ × List Event)
    → Result LoopReplay AnswerError → Type 0
IsReplayed test program argument words schedule replayed =
    (comes : Result LoopReplay ReplayRefusal) × ReplaysFrom test program argument words schedule.0 schedule.1 comes
    × (replayed ≡ or_refusal comes)

-- the line of the loop that was replayed and the maps of these sizes after it, or the replay's refusal
abbrev pub replay_outcome : List ℕ → Result LoopReplay AnswerError → TextOutcome
replay_outcome sizes (Ok loop) = Ok (replay_text sizes loop.number loop.report loop.words)
replay_outcome sizes (Err error) = Err error

-- what comes of that is printed
abbrev pub ReplaysTo : Program → ℕ → Test → TextOutcome → Result (List ℕ × List Event) AnswerError → TextOutcome
    → Type 0
ReplaysTo program argument test (Err error) schedule outcome = outcome ≡ Err error
ReplaysTo program argument test (Ok words) (Err error) outcome = outcome ≡ Err error
ReplaysTo program argument test (Ok words) (Ok schedule) outcome =
    (replayed : Result LoopReplay AnswerError) × IsReplayed test program argument words schedule replayed
    × (outcome ≡ replay_outcome program.sizes replayed)

-- an accepted program is replayed on the maps of a section with the events of another
abbrev pub OfReplay : Result Program AnswerError → ℕ → Test → (maps events : List ℕ) → TextOutcome → Type 0
OfReplay (Err error) argument test maps events outcome = outcome ≡ Err error
OfReplay (Ok program) argument test maps events outcome =
    ReplaysTo program argument test (maps_start_words program.sizes maps)
    (in_section sections.Events (events_text events)) outcome

-- an input is at most 3,145,728 bytes of UTF-8
abbrev pub readable : List ℕ → TextOutcome
readable input =
    if nat_lt 3145728 (length input) then refused (refusals.Text text_faults.TooLong sections.Unit 0)
    else if is_utf8 input then Ok input else refused (refusals.Text text_faults.Form sections.Unit 0)

-- what comes of an input in a mode
abbrev pub InMode : Mode → List ℕ → TextOutcome → Type 0
InMode (Order form argument) input outcome = OfOrder (accepted (unit_program form (unit_section input))) argument
    (maps_section input) outcome
InMode (Replay form argument test) input outcome =
    OfReplay (accepted (unit_program form (unit_section input))) argument test (maps_section input)
    (events_section input) outcome
InMode (Verify form) input outcome = outcome ≡ verified (accepted (unit_program form (unit_section input)))
InMode Asm input outcome = outcome ≡ written Hex (unit_program Assembler (unit_section input))
InMode Disasm input outcome = outcome ≡ written Assembler (unit_program Hex (unit_section input))

-- what comes of an input whose program runs by a plan
abbrev pub ByPlan : UnitForm → ℕ → Plan → List ℕ → TextOutcome → Type 0
ByPlan form argument plan input outcome =
    OfRun (accepted (unit_program form (unit_section input))) argument plan (maps_section input) outcome

-- what comes of an input, if it can be read
abbrev pub OfReadable : (Comes : List ℕ → TextOutcome → Type 0) → TextOutcome → TextOutcome → Type 0
OfReadable Comes (Err error) outcome = outcome ≡ Err error
OfReadable Comes (Ok input) outcome = Comes input outcome

-- what comes of an input
abbrev pub OfInput : (Comes : List ℕ → TextOutcome → Type 0) → List ℕ → TextOutcome → Type 0
OfInput Comes input outcome = OfReadable Comes (readable input) outcome

-- an answer: its text, and how it is served
pub record Answer : Type 0 where
  pub served : Served
  pub text : List ℕ

-- a text's refusal is served differently from the others
abbrev pub refused_as : Refusal → Served
refused_as (refusals.Text fault section line) = served.Text
refused_as _ = served.Refused

-- the answer for an outcome
abbrev pub text_answer : TextOutcome → Answer
text_answer (Ok text) = record { served = served.Done; text = text }
text_answer (Err (errors.Refused refusal)) = record { served = refused_as refusal; text = refusal_line refusal }
text_answer (Err errors.Memory) = record { served = served.Memory; text = memory_line }

-- what a function returns, seen by view, is as wanted, or memory ran out
abbrev pub SatisfiesUnlessMemory : {X Y : Type 0} → (X → Y) → (Result Y AnswerError → Type 0) → Result X AnswerError
    → Type 0
SatisfiesUnlessMemory view wanted (Ok x) = wanted (Ok (view x))
SatisfiesUnlessMemory view wanted (Err (errors.Refused refusal)) = wanted (refused refusal)
SatisfiesUnlessMemory view wanted (Err errors.Memory) = Unit {0}

-- an answer gives what a function returned, seen by view; there is none if memory ran out
abbrev pub AnswerGives : {X : Type 0} → (X → List ℕ) → Result X AnswerError → Answer → Type 0
AnswerGives view (Ok x) answer = answer ≡ text_answer (Ok (view x))
AnswerGives view (Err (errors.Refused refusal)) answer = answer ≡ text_answer (refused refusal)
AnswerGives view (Err errors.Memory) answer = ⊥
