-- What the reading of a text answers: a value, or a refusal.
use Rattle.std.specs.Prelude.{ℕ, List, ◌∷◌, Option, Some, None, Result, Ok, Err}
use Rattle.bpf_text_lex.specs.declared.text_error.{TextFault.{TextFault}, TextError.{TextError}}
use Rattle.bpf_text_lex.specs.declared.text_error.TextError.TheVariants as errors

-- the refusal of an error, unless memory ran out
abbrev pub text_refusal : TextError → Option TextError
text_refusal errors.Memory = None
text_refusal (errors.Refused fault line) = Some (errors.Refused fault line)

-- what a line says, in a text: a fault is named with the line's number
abbrev pub at_line : {X : Type 0} → ℕ → Result X TextFault → Result X TextError
at_line line (Ok x) = Ok x
at_line line (Err fault) = Err (errors.Refused fault line)

-- a value before further ones, or the first fault
abbrev pub with_first_item : {X : Type 0} → Result X TextFault → Result (List X) TextFault → Result (List X) TextFault
with_first_item (Ok x) (Ok xs) = Ok (x ∷ xs)
with_first_item (Ok x) (Err fault) = Err fault
with_first_item (Err fault) others = Err fault

-- what follows a value, or the first refusal
infixl 10 ◌>>=◌
abbrev pub ◌>>=◌ : {A B : Type 0} → Result A TextError → (A → Result B TextError) → Result B TextError
(Ok x) >>= f = f x
(Err e) >>= f = Err e
