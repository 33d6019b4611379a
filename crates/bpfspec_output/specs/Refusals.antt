-- The line that says why an input has no result.
use Rattle.std.specs.{Prelude.{ℕ, List, ◌++◌, codes}, Fmt.{decimal}}
use Rattle.bpf_insn.specs.FaultNumbers.{codec_fault_number as codec_fault_number}
use Rattle.bpf_text_lex.specs.FaultNumbers.{text_fault_number as text_fault_number}
use Rattle.bpf_verify_model.specs.RuleNumbers.{rule_number}
use Rattle.loop_core_model.specs.declared.faults.SplitFault.TheVariants as splits
use Rattle.loop_core_model.specs.declared.replay_fault.ReplayFault.TheVariants as schedules
use Rattle.bpfspec_output.specs.declared.refusal.{Section.{Section}, Refusal.{Refusal}}
use Rattle.bpfspec_output.specs.declared.refusal.Section.TheVariants as sections
use Rattle.bpfspec_output.specs.declared.refusal.Refusal.TheVariants as refusals

-- a section's name
abbrev pub section_name : Section → List ℕ
section_name sections.Unit = codes "unit"
section_name sections.Maps = codes "maps"
section_name sections.Events = codes "events"

-- a refusal without what all have in common
abbrev pub what_is_refused : Refusal → List ℕ
what_is_refused (refusals.Text fault section line) = codes "A" ++ decimal (text_fault_number fault) ++ codes " at "
    ++ section_name section ++ codes " line " ++ decimal line
what_is_refused (refusals.Codec fault slot) = codes "I" ++ decimal (codec_fault_number fault) ++ codes " at slot "
    ++ decimal slot
what_is_refused (refusals.Rule rule slot) = codes "V" ++ decimal (rule_number rule) ++ codes " at slot " ++ decimal slot
what_is_refused refusals.Sizes = codes "P1"
what_is_refused refusals.Plan = codes "P2"
what_is_refused refusals.NoLoop = codes "no loop"
what_is_refused (refusals.Split splits.Falling) = codes "S1"
what_is_refused (refusals.Split splits.Number) = codes "S2"
what_is_refused (refusals.Split splits.Ends) = codes "S3"
what_is_refused (refusals.Schedule (schedules.NoSuchWorker event)) = codes "E1 at event " ++ decimal event
what_is_refused (refusals.Schedule (schedules.NotEnabled event)) = codes "E2 at event " ++ decimal event
what_is_refused (refusals.Schedule (schedules.NotEnded events)) = codes "E3 at event " ++ decimal events

-- the line of a refusal
abbrev pub refusal_line : Refusal → List ℕ
refusal_line refusal = codes "refused " ++ what_is_refused refusal ++ codes "\n"

-- the line where memory ran out
abbrev pub memory_line : List ℕ
memory_line = codes "refused memory\n"
