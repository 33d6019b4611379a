-- What refusals mean from one step of loading to the next.
use Rattle.std.proofs.Common.{◌≡◌, ℕ, Bool, true, false, if◌then◌else◌, List, Ok, Err, refl, ap}
use Rattle.std.specs.{Prelude.{Result, IsUtf8}, Str.{is_utf8}}
use Rattle.std.proofs.lemmas.Str.{is_utf8-from_IsUtf8, IsUtf8-from_is_utf8}
use Rattle.bpf_insn_types.specs.{declared.insn.Insn.{Insn}, Outcome.{RefusalMatches}}
use Rattle.bpf_insn.specs.{declared.codec_error.CodecError.{CodecError}, CodecRefusal.{codec_refusal}}
use Rattle.bpf_insn.specs.declared.codec_error.CodecError.TheVariants as codec
use Rattle.bpf_text_lex.specs.{declared.text_error.TextError.{TextError}, Refusals.{text_refusal}}
use Rattle.bpf_text_lex.specs.declared.text_error.TextFault.TheVariants as text_faults
use Rattle.bpf_text_lex.specs.declared.text_error.TextError.TheVariants as text
use Rattle.bpfspec_machine.specs.declared.load_error.LoadError.{LoadError, TheVariants.{Text, Codec, Rule, Memory}}
use Rattle.bpfspec_machine.specs.Loading.{and_then, load_refusal, text_load_error, as_loaded, readable}
use Rattle.bpfspec_machine.specs.Loading.{codec_load_error, with_sizes}

-- bytes that are UTF-8 are a text
pub reads : (bytes : List ℕ) → IsUtf8 bytes → readable bytes ≡ Ok bytes
unfolding readable
reads bytes utf8 =
    ap (λ (b : Bool). if b then Ok bytes else Err (Text text_faults.Form 0)) (is_utf8-from_IsUtf8 bytes utf8)

not_utf8 : (bytes : List ℕ) (b : Bool) → is_utf8 bytes ≡ b → ¬ IsUtf8 bytes → b ≡ false
not_utf8 bytes false same other = refl
not_utf8 bytes true same other = absurd (other (IsUtf8-from_is_utf8 bytes same))

-- others aren't
pub refuses : (bytes : List ℕ) → ¬ IsUtf8 bytes → readable bytes ≡ Err (Text text_faults.Form 0)
unfolding readable
refuses bytes other =
    ap (λ (b : Bool). if b then Ok bytes else Err (Text text_faults.Form 0)) (not_utf8 bytes (is_utf8 bytes) refl other)

-- the error of a text is what the text means
pub text_fails : {X : Type 0} (error : TextError) (meaning : Result X TextError)
    → RefusalMatches (text_refusal error) meaning
    → RefusalMatches (load_refusal (text_load_error error)) (as_loaded meaning)
text_fails (text.Refused fault line) meaning is = ap as_loaded is
text_fails text.Memory meaning is = tt

-- the error of a program's bytes is what they mean
pub codec_fails : (sizes : List ℕ) (error : CodecError) (meaning : Result (List Insn) CodecError)
    → RefusalMatches (codec_refusal error) meaning
    → RefusalMatches (load_refusal (codec_load_error error)) (with_sizes sizes meaning)
codec_fails sizes (codec.Refused fault slot) meaning is = ap (with_sizes sizes) is
codec_fails sizes codec.Memory meaning is = tt

-- an error of what gives a value is an error of what the value gives
pub passes : {X Y : Type 0} (gives : X → Result Y LoadError) (error : LoadError) (meaning : Result X LoadError)
    → RefusalMatches (load_refusal error) meaning → RefusalMatches (load_refusal error) (and_then gives meaning)
unfolding and_then
passes gives (Text fault line) meaning is = ap (and_then gives) is
passes gives (Codec fault slot) meaning is = ap (and_then gives) is
passes gives (Rule rule slot) meaning is = ap (and_then gives) is
passes gives Memory meaning is = tt

pub ruleset load_laws = (text_fails, codec_fails, passes)
