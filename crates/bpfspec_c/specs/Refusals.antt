-- Refusals, as C sees them.
use Rattle.std.specs.Prelude.{ℤ}
use Rattle.bpf_text_lex.specs.FaultNumbers.{text_fault_number}
use Rattle.bpf_insn.specs.FaultNumbers.{codec_fault_number}
use Rattle.bpf_verify_model.specs.RuleNumbers.{rule_number}
use Rattle.bpfspec_machine.specs.declared.load_error.LoadError.{LoadError, TheVariants.{Text, Codec, Rule, Memory}}
use Rattle.bpfspec_c.specs.declared.refusal.Refusal.{Refusal}
use Rattle.bpfspec_c.specs.Statuses as status

-- the status of an error
abbrev pub error_status : LoadError → ℤ
error_status (Text fault line) = status.malformed
error_status (Codec fault slot) = status.malformed
error_status (Rule rule slot) = status.refused
error_status Memory = status.memory

-- the letter, the number and the line or slot of an error: A, I or V; where memory ran out, what was reported before
abbrev pub told_after : LoadError → (before : Refusal) → Refusal
told_after (Text fault line) before = record { kind = 65; number = text_fault_number fault; place = line }
told_after (Codec fault slot) before = record { kind = 73; number = codec_fault_number fault; place = slot }
told_after (Rule rule slot) before = record { kind = 86; number = rule_number rule; place = slot }
told_after Memory before = before
