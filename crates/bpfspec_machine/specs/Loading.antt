-- What is loaded.
use Rattle.std.specs.{Prelude.{ℕ, List, if◌then◌else◌, Option, Some, None, Result, Ok, Err}, Str.{is_utf8}}
use Rattle.bpf_insn_types.specs.{declared.insn.Insn.{Insn}, Program.{Program}}
use Rattle.bpf_insn.specs.{declared.codec_error.CodecError.{CodecError}, Reading.{reading}}
use Rattle.bpf_insn.specs.declared.codec_error.CodecError.TheVariants as codec
use Rattle.bpf_text_lex.specs.declared.text_error.TextError.{TextError}
use Rattle.bpf_text_lex.specs.declared.text_error.TextFault.TheVariants as text_faults
use Rattle.bpf_text_lex.specs.declared.text_error.TextError.TheVariants as text
use Rattle.bpf_text.specs.{HexText.{hex_text}, AssemblerText.{assembler_text}}
use Rattle.bpf_verify_model.specs.Accepted.{BrokenRule, first_fault}
use Rattle.bpfspec_machine.specs.declared.load_error.LoadError.{LoadError, TheVariants.{Text, Codec, Rule, Memory}}
use Rattle.bpfspec_machine.specs.Machines.{MachineState, new_machine}

-- the refusal of an error, unless memory ran out
abbrev pub load_refusal : LoadError → Option LoadError
load_refusal Memory = None
load_refusal error = Some error

-- the error of a text
abbrev pub text_load_error : TextError → LoadError
text_load_error (text.Refused fault line) = Text fault line
text_load_error text.Memory = Memory

-- the error of a program's bytes
abbrev pub codec_load_error : CodecError → LoadError
codec_load_error (codec.Refused fault slot) = Codec fault slot
codec_load_error codec.Memory = Memory

-- what a text means
abbrev pub as_loaded : {X : Type 0} → Result X TextError → Result X LoadError
as_loaded (Ok x) = Ok x
as_loaded (Err error) = Err (text_load_error error)

-- what a value gives, or the error in its place
unfoldable pub and_then : {X Y : Type 0} → (X → Result Y LoadError) → Result X LoadError → Result Y LoadError
and_then gives (Ok x) = gives x
and_then gives (Err error) = Err error

-- bytes as a text: they are UTF-8
unfoldable pub readable : List ℕ → Result (List ℕ) LoadError
readable bytes = if is_utf8 bytes then Ok bytes else Err (Text text_faults.Form 0)

-- the program of an assembler text
abbrev pub text_program : List ℕ → Result Program LoadError
text_program bytes = and_then (λ text. as_loaded (assembler_text text)) (readable bytes)

-- the program of sizes and instructions
abbrev pub with_sizes : List ℕ → Result (List Insn) CodecError → Result Program LoadError
with_sizes sizes (Ok insns) = Ok (record { sizes = sizes; insns = insns })
with_sizes sizes (Err error) = Err (codec_load_error error)

-- the program of sizes and the bytes of instructions
abbrev pub insns_program : (sizes bytes : List ℕ) → Result Program LoadError
insns_program sizes bytes = with_sizes sizes (reading bytes)

-- the program of a text in hex form
abbrev pub hex_program : List ℕ → Result Program LoadError
hex_program bytes =
    and_then (λ parts. insns_program parts.sizes parts.bytes)
    (and_then (λ text. as_loaded (hex_text text)) (readable bytes))

-- a program that breaks no rule is loaded, else refused by its first fault
abbrev pub unless_rule_broken : Program → Option BrokenRule → Result MachineState LoadError
unless_rule_broken program None = Ok (new_machine program)
unless_rule_broken program (Some fault) = Err (Rule fault.rule fault.slot)

-- the machine of a program
abbrev pub loaded : Result Program LoadError → Result MachineState LoadError
loaded program = and_then (λ p. unless_rule_broken p (first_fault p)) program
