-- The fixed words of records: the name of a fault is that of its variant.
use Rattle.std.specs.Prelude.{ℕ, List, codes}
use Rattle.bpf_verify_model.specs.declared.rule.Rule.{Rule}
use Rattle.bpf_verify_model.specs.declared.rule.Rule.TheVariants as rules
use Rattle.bpf_text_lex.specs.declared.text_error.TextFault.{TextFault}
use Rattle.bpf_text_lex.specs.declared.text_error.TextFault.TheVariants as texts
use Rattle.bpf_insn.specs.declared.codec_error.CodecFault.{CodecFault}
use Rattle.bpf_insn.specs.declared.codec_error.CodecFault.TheVariants as bytes
use Rattle.loop_core_model.specs.declared.{loop_test.Test.{Test}, verdict.Verdict.{Verdict}}
use Rattle.loop_core_model.specs.declared.loop_test.Test.TheVariants as tests
use Rattle.loop_core_model.specs.declared.verdict.Verdict.TheVariants as verdicts
use Rattle.bpfspec_records.specs.declared.records.FrameOf.{FrameOf}
use Rattle.bpfspec_records.specs.declared.records.FrameOf.TheVariants as frames
use Rattle.loop_core_split.specs.declared.strategy.BlocksReason.{BlocksReason}
use Rattle.loop_core_split.specs.declared.strategy.BlocksReason.TheVariants as reasons

-- the name of a rule of the verifier
abbrev pub rule_name : Rule → List ℕ
rule_name rules.NoSlot = codes "no_slot"
rule_name rules.OverLimits = codes "over_limits"
rule_name rules.JumpTarget = codes "jump_target"
rule_name rules.FallThrough = codes "fall_through"
rule_name rules.CodeTarget = codes "code_target"
rule_name rules.TooManyCallbacks = codes "too_many_callbacks"
rule_name rules.UnknownHelper = codes "unknown_helper"
rule_name rules.CallKind = codes "call_kind"
rule_name rules.LoadKind = codes "load_kind"
rule_name rules.MissingMap = codes "missing_map"
rule_name rules.FramePointerWrite = codes "frame_pointer_write"
rule_name rules.UnwrittenRegister = codes "unwritten_register"
rule_name rules.ArithmeticOperand = codes "arithmetic_operand"
rule_name rules.ComparisonOperand = codes "comparison_operand"
rule_name rules.StoredOperand = codes "stored_operand"
rule_name rules.AccessBase = codes "access_base"
rule_name rules.AreaAccessSize = codes "area_access_size"
rule_name rules.AccessAlignment = codes "access_alignment"
rule_name rules.AccessBounds = codes "access_bounds"
rule_name rules.UnwrittenByte = codes "unwritten_byte"
rule_name rules.CtxWrite = codes "ctx_write"
rule_name rules.HelperArgument = codes "helper_argument"
rule_name rules.NestedCallback = codes "nested_callback"
rule_name rules.CallbackResult = codes "callback_result"
rule_name rules.MainResult = codes "main_result"

-- the name of a text's fault
abbrev pub text_fault_name : TextFault → List ℕ
text_fault_name texts.Form = codes "form"
text_fault_name texts.Field = codes "field"
text_fault_name texts.Register = codes "register"
text_fault_name texts.UnknownLabel = codes "unknown_label"
text_fault_name texts.RepeatedLabel = codes "repeated_label"
text_fault_name texts.TooLong = codes "too_long"
text_fault_name texts.Limits = codes "limits"

-- the name of a fault of bytes
abbrev pub codec_fault_name : CodecFault → List ℕ
codec_fault_name bytes.Incomplete = codes "incomplete"
codec_fault_name bytes.UnknownOpcode = codes "unknown_opcode"
codec_fault_name bytes.RegisterNumber = codes "register_number"
codec_fault_name bytes.FieldNotZero = codes "field_not_zero"
codec_fault_name bytes.CallSource = codes "call_source"
codec_fault_name bytes.LoadKind = codes "load_kind"
codec_fault_name bytes.Immediate = codes "immediate"
codec_fault_name bytes.Offset = codes "offset"
codec_fault_name bytes.SecondSlot = codes "second_slot"

-- the name of a test
abbrev pub test_word : Test → List ℕ
test_word tests.Lrpd = codes "lrpd"
test_word tests.Flow = codes "flow"

-- whose frame it is
abbrev pub frame_word : FrameOf → List ℕ
frame_word frames.Own = codes "own"
frame_word frames.Main = codes "main"

-- how a loop came out
abbrev pub verdict_word : Verdict → List ℕ
verdict_word verdicts.Parallel = codes "parallel"
verdict_word (verdicts.Conflict count least) = codes "conflict"
verdict_word verdicts.Refused = codes "refused"
verdict_word verdicts.InOrder = codes "in_order"

-- why a loop went by blocks
abbrev pub blocks_word : BlocksReason → List ℕ
blocks_word reasons.Asked = codes "asked"
blocks_word reasons.Lrpd = codes "lrpd"
blocks_word reasons.Work = codes "work"
blocks_word reasons.ReadsWritten = codes "reads_written"
