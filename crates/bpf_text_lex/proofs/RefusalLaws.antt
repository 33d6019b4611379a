-- Reading values one after the other, as a loop does.
use Rattle.std.proofs.Common.{◌≡◌, ℕ, List, [], ◌∷◌, ◌++◌, Result, Ok, Err, refl, sym, ap, ◌∙◌, append_assoc}
use Rattle.bpf_text_lex.specs.declared.text_error.{TextFault.{TextFault}, TextError.{TextError}}
use Rattle.bpf_text_lex.specs.Refusals.{at_line, with_first_item, ◌>>=◌, text_refusal}
use Rattle.bpf_text_lex.specs.declared.text_error.TextError.TheVariants as errors
use Rattle.bpf_insn_types.specs.Outcome.{RefusalMatches}

-- a refusal stays one, whatever follows it
pub bind_fails : {A B : Type 0} (e : TextError) (r : Result A TextError) (f : A → Result B TextError)
    → RefusalMatches (text_refusal e) r → RefusalMatches (text_refusal e) (r >>= f)
bind_fails errors.Memory r f fails = tt
bind_fails (errors.Refused fault line) (Ok x) f fails = absurd cc
bind_fails (errors.Refused fault line) (Err other) f fails = cc

-- ---- the values of a line

-- what was read before, and what is still read
abbrev pub with_front : {X : Type 0} → List X → Result (List X) TextFault → Result (List X) TextFault
with_front front (Ok xs) = Ok (front ++ xs)
with_front front (Err fault) = Err fault

regroup : {X : Type 0} (front : List X) (x : X) (others : Result (List X) TextFault)
    → with_front front (with_first_item (Ok x) others) ≡ with_front (front ++ x ∷ []) others
regroup {X} front x (Ok xs) = ap (λ (list : List X). Ok list) (simp append_assoc)
regroup front x (Err fault) = refl

pub goes_on : {X : Type 0} (line : ℕ) (front : List X) (x : X) (first : Result X TextFault)
    (others total : Result (List X) TextFault) → at_line line first ≡ Ok x →
    with_front front (with_first_item first others) ≡ total → with_front (front ++ x ∷ []) others ≡ total
goes_on {X} line front x (Ok y) others total read so_far =
    let same : y ≡ x = cc in
    sym (regroup front x others) ∙ ap (λ (z : X). with_front front (with_first_item (Ok z) others)) (sym same) ∙ so_far
goes_on line front x (Err fault) others total read so_far = absurd cc

pub ends : {X : Type 0} (e : TextError) (line : ℕ) (front : List X) (first : Result X TextFault)
    (others total : Result (List X) TextFault) → RefusalMatches (text_refusal e) (at_line line first) →
    with_front front (with_first_item first others) ≡ total → RefusalMatches (text_refusal e) (at_line line total)
ends errors.Memory line front first others total fails so_far = tt
ends (errors.Refused fault at) line front (Ok x) others total fails so_far = absurd cc
ends (errors.Refused fault at) line front (Err other) others total fails so_far =
    let refusal : total ≡ Err other = sym so_far in
    let same : errors.Refused other line ≡ errors.Refused fault at = cc in
    ap (at_line line) refusal ∙ ap (λ (error : TextError). Err error) same
