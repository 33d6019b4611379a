-- The record of a refusal.
use Rattle.std.specs.{Prelude.{ℕ, List, ◌++◌, codes, Option, Some, None}, Fmt.{decimal}}
use Rattle.bpf_insn.specs.FaultNumbers.{codec_fault_number as codec_fault_number}
use Rattle.bpf_text_lex.specs.FaultNumbers.{text_fault_number as text_fault_number}
use Rattle.bpf_verify_model.specs.RuleNumbers.{rule_number}
use Rattle.loop_core_model.specs.declared.faults.SplitFault.TheVariants as splits
use Rattle.loop_core_model.specs.declared.replay_fault.ReplayFault.TheVariants as schedules
use Rattle.bpfspec_output.specs.{Refusals.{section_name}, declared.refusal.{Section.{Section}, Refusal.{Refusal}}}
use Rattle.bpfspec_output.specs.declared.refusal.Section.TheVariants as sections
use Rattle.bpfspec_output.specs.declared.refusal.Refusal.TheVariants as refusals
use Rattle.bpfspec_records.specs.Fields.{object, optional, word}
use Rattle.bpfspec_records.specs.Words.{codec_fault_name, rule_name, text_fault_name}

-- the section that is refused
abbrev pub refused_section : Refusal → Section
refused_section (refusals.Text fault section line) = section
refused_section (refusals.Codec fault slot) = sections.Unit
refused_section (refusals.Rule rule slot) = sections.Unit
refused_section refusals.Sizes = sections.Maps
refused_section refusals.Plan = sections.Unit
refused_section refusals.NoLoop = sections.Events
refused_section (refusals.Split fault) = sections.Events
refused_section (refusals.Schedule fault) = sections.Events

-- the code of a refusal: the letter of its kind and the number of its fault
abbrev pub refusal_code : Refusal → List ℕ
refusal_code (refusals.Text fault section line) = codes "A" ++ decimal (text_fault_number fault)
refusal_code (refusals.Codec fault slot) = codes "I" ++ decimal (codec_fault_number fault)
refusal_code (refusals.Rule rule slot) = codes "V" ++ decimal (rule_number rule)
refusal_code refusals.Sizes = codes "P1"
refusal_code refusals.Plan = codes "P2"
refusal_code refusals.NoLoop = codes "no_loop"
refusal_code (refusals.Split splits.Falling) = codes "S1"
refusal_code (refusals.Split splits.Number) = codes "S2"
refusal_code (refusals.Split splits.Ends) = codes "S3"
refusal_code (refusals.Schedule (schedules.NoSuchWorker event)) = codes "E1"
refusal_code (refusals.Schedule (schedules.NotEnabled event)) = codes "E2"
refusal_code (refusals.Schedule (schedules.NotEnded events)) = codes "E3"

-- its name: that of its fault
abbrev pub refusal_name : Refusal → List ℕ
refusal_name (refusals.Text fault section line) = text_fault_name fault
refusal_name (refusals.Codec fault slot) = codec_fault_name fault
refusal_name (refusals.Rule rule slot) = rule_name rule
refusal_name refusals.Sizes = codes "sizes"
refusal_name refusals.Plan = codes "plan"
refusal_name refusals.NoLoop = codes "no_loop"
refusal_name (refusals.Split splits.Falling) = codes "falling"
refusal_name (refusals.Split splits.Number) = codes "number"
refusal_name (refusals.Split splits.Ends) = codes "ends"
refusal_name (refusals.Schedule (schedules.NoSuchWorker event)) = codes "no_such_worker"
refusal_name (refusals.Schedule (schedules.NotEnabled event)) = codes "not_enabled"
refusal_name (refusals.Schedule (schedules.NotEnded events)) = codes "not_ended"

-- the line of a text at which it is
abbrev pub refused_line : Refusal → Option ℕ
refused_line (refusals.Text fault section line) = Some line
refused_line _ = None

-- the slot at which it is
abbrev pub refused_slot : Refusal → Option ℕ
refused_slot (refusals.Codec fault slot) = Some slot
refused_slot (refusals.Rule rule slot) = Some slot
refused_slot _ = None

-- the event at which it is, or how many events there are
abbrev pub refused_event : Refusal → Option ℕ
refused_event (refusals.Schedule (schedules.NoSuchWorker event)) = Some event
refused_event (refusals.Schedule (schedules.NotEnabled event)) = Some event
refused_event (refusals.Schedule (schedules.NotEnded events)) = Some events
refused_event _ = None

-- the record of a refusal: what is refused, why, and where it is
unfoldable pub printed_refusal : Refusal → List ℕ
printed_refusal refusal = object (codes "refusal")
    (word (codes "section") (section_name (refused_section refusal))
    ++ word (codes "code") (refusal_code refusal)
    ++ word (codes "name") (refusal_name refusal)
    ++ optional (codes "line") (refused_line refusal)
    ++ optional (codes "slot") (refused_slot refusal)
    ++ optional (codes "event") (refused_event refusal))
