-- The numbers of the rules, as they are printed, without the V.
use Rattle.std.specs.Prelude.{ℕ}
use Rattle.bpf_verify_model.specs.declared.rule.Rule.{Rule, TheVariants.{NestedCallback, CallbackResult, MainResult}}
use Rattle.bpf_verify_model.specs.declared.rule.Rule.TheVariants.{NoSlot, OverLimits, JumpTarget, FallThrough}
use Rattle.bpf_verify_model.specs.declared.rule.Rule.TheVariants.{CodeTarget, TooManyCallbacks, UnknownHelper, CallKind}
use Rattle.bpf_verify_model.specs.declared.rule.Rule.TheVariants.{LoadKind, MissingMap, FramePointerWrite}
use Rattle.bpf_verify_model.specs.declared.rule.Rule.TheVariants.{UnwrittenRegister, ArithmeticOperand}
use Rattle.bpf_verify_model.specs.declared.rule.Rule.TheVariants.{ComparisonOperand, StoredOperand, AccessBase}
use Rattle.bpf_verify_model.specs.declared.rule.Rule.TheVariants.{AreaAccessSize, AccessAlignment, AccessBounds}
use Rattle.bpf_verify_model.specs.declared.rule.Rule.TheVariants.{UnwrittenByte, CtxWrite, HelperArgument}

-- a rule's number
abbrev pub rule_number : Rule → ℕ
rule_number NoSlot = 1
rule_number OverLimits = 2
rule_number JumpTarget = 3
rule_number FallThrough = 4
rule_number CodeTarget = 5
rule_number TooManyCallbacks = 6
rule_number UnknownHelper = 7
rule_number CallKind = 8
rule_number LoadKind = 9
rule_number MissingMap = 10
rule_number FramePointerWrite = 11
rule_number UnwrittenRegister = 12
rule_number ArithmeticOperand = 13
rule_number ComparisonOperand = 14
rule_number StoredOperand = 15
rule_number AccessBase = 16
rule_number AreaAccessSize = 17
rule_number AccessAlignment = 18
rule_number AccessBounds = 19
rule_number UnwrittenByte = 20
rule_number CtxWrite = 21
rule_number HelperArgument = 22
rule_number NestedCallback = 23
rule_number CallbackResult = 24
rule_number MainResult = 25
