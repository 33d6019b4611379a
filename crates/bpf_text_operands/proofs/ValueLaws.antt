-- Each operand is read back from its spelling.
use Rattle.std.proofs.Common.{◌≡◌, ℕ, suc, ℤ, pos, negsuc, ◌+◌, ◌-◌, ◌<◌, ◌≤◌, ◌^◌, Bool, true, false, cond, ◌&&◌, ◌==◌}
use Rattle.std.proofs.Common.{List, [], ◌∷◌, ◌++◌, length, take, drop, get_or, Result, Ok, Err, Option, refl, ap, ◌∙◌}
use Rattle.std.{proofs.Common.{arith}, specs.{Prelude.{nat_lt, FitsSigned}, Char.{is_ascii_digit}, Int.{w32}}}
use Rattle.std.specs.{Fmt.{decimal, signed_decimal}, List.{list_all, position_or_len}}
use Rattle.std.proofs.lemmas.{Bool.{ne_eqb, lt-ltb, and_parts, and_from, cond-true, cond-false}, Fmt.{first_decimal}}
use Rattle.std.proofs.lemmas.Bool.Decides.{nat_tests}
use Rattle.std.proofs.{lemmas.List.{length-append}, Math.Seq.{take-append_seam, drop-append_seam, get_or-append_seam}}
use Rattle.bpf_text_lex.specs.{Names.{continues_name, is_name}, Numbers.{is_numeral, is_negative, number_in}}
use Rattle.bpf_text_lex.{proofs.SpellingLaws.{in_field, digit_low, decimal_digits}, specs.declared.value.Value.{Value}}
use Rattle.bpf_text_lex.{specs.declared.text_error.TextFault.{TextFault}, proofs.Bounds.{InBound}}
use Rattle.bpf_text_lex.specs.PrintedLines.{distance_spelling, value_spelling}
use Rattle.bpf_text_lex.specs.declared.text_error.TextFault.TheVariants as faults
use Rattle.bpf_text_lex.specs.declared.value.Value.TheVariants as value
use Rattle.bpf_text_operands.specs.SignedNumbers.{as_register, register_at, ahead, back, signed_at, offset_at}
use Rattle.bpf_text_operands.specs.{SignedNumbers.{distance_at}, Operands.{address_at}}
use Rattle.bpf_text_operands.specs.Operands.{pair, as_address, is_sign, is_bracketed, inside, base_part, offset_part}

-- digits have no sign
no_minus : (word : List ℕ) → 48 ≤ get_or word 0 0 → is_negative word ≡ false
no_minus word low =
    let other : (get_or word 0 0 == 45) ≡ false = ne_eqb (get_or word 0 0) 45 (λ e. absurd (omega (arith, e, low))) in
    rw other refl

-- ---- registers

pub register_back : (word : List ℕ) (r : ℕ) → list_all is_ascii_digit word ≡ true → 0 < length word
    → number_in 10 word ≡ Ok r → register_at (114 ∷ word) ≡ Ok r
register_back word r digits filled read =
    let long : nat_lt 1 (length (114 ∷ word)) ≡ true = lt-ltb 1 (length (114 ∷ word)) (omega arith) in
    cond-true (nat_lt 1 (length (114 ∷ word)) && list_all is_ascii_digit word) (as_register (number_in 10 word))
    (Err faults.Form) (and_from _ _ long digits) ∙ ap as_register read

pub register_decimal : (r : ℕ) → r ≤ 10 → register_at (114 ∷ decimal r) ≡ Ok r
register_decimal r le = let d = decimal_digits r (omega arith) in register_back (decimal r) r d.digits d.filled
    (in_field 10 r (omega arith) le)

-- ---- numbers with a sign

minus_back : (bound n : ℕ) → bound < 2 ^ 64 → suc n ≤ bound → (x : Result ℤ TextFault)
    → cond (is_negative (45 ∷ decimal (suc n))) (back (number_in bound (decimal (suc n)))) x ≡ Ok (negsuc n)
minus_back bound n small le x =
    let fits : suc n < 2 ^ 64 = omega arith in
    let d = decimal_digits (suc n) fits in
    let first : nat_lt 48 (get_or (decimal (suc n)) 0 0) ≡ true = lt-ltb _ _ (first_decimal (suc n) (omega arith) fits)
    in
    cond-true (nat_lt 48 (get_or (decimal (suc n)) 0 0) && is_numeral (decimal (suc n)))
    (back (number_in bound (decimal (suc n)))) x (and_from _ _ first d.numeral)
    ∙ ap back (in_field bound (suc n) small le)

pub signed_back : (z : ℤ) → FitsSigned w32 z → signed_at (2 ^ 31) (signed_decimal z) ≡ Ok z
signed_back (pos n) fits =
    let d = decimal_digits n (omega (arith, fits.sfits)) in
    cond-false (is_negative (decimal n)) (back (number_in (2 ^ 31) (drop 1 (decimal n))))
    (ahead (number_in (2 ^ 31 - 1) (decimal n))) (no_minus (decimal n) d.first)
    ∙ ap ahead (in_field (2 ^ 31 - 1) n (omega arith) (omega (arith, fits.sfits)))
signed_back (negsuc n) fits = minus_back (2 ^ 31) n (omega arith) (omega (arith, fits.sfits)) _

pub offset_back : (bound : ℕ) (z : ℤ) → bound < 2 ^ 64 → InBound bound z → offset_at bound (distance_spelling z) ≡ Ok z
offset_back bound (pos n) small lt =
    let d = decimal_digits n (omega arith) in
    cond-true (is_numeral (decimal n)) (ahead (number_in (bound - 1) (decimal n))) (Err faults.Form) d.numeral
    ∙ ap ahead (in_field (bound - 1) n (omega arith) (omega arith))
offset_back bound (negsuc n) small lt = minus_back bound n small (omega arith) _

no_name : (a b c d : Bool) → c ≡ false → (a && (b && (c && d))) ≡ false
no_name true true c d e = rw e refl
no_name true false c d e = refl
no_name false b c d e = refl

pub distance_back : (find : List ℕ → Option ℕ) (bound slot : ℕ) (z : ℤ) → bound < 2 ^ 64 → InBound bound z
    → distance_at find bound slot (distance_spelling z) ≡ Ok z
distance_back find bound slot (pos n) small lt =
    cond-false (is_name (43 ∷ decimal n)) _ _ (no_name _ _ _ (list_all continues_name (decimal n)) refl)
    ∙ offset_back bound (pos n) small lt
distance_back find bound slot (negsuc n) small lt =
    cond-false (is_name (45 ∷ decimal (suc n))) _ _ (no_name _ _ _ (list_all continues_name (decimal (suc n))) refl)
    ∙ offset_back bound (negsuc n) small lt

-- ---- memory

no_sign : (b : ℕ) → 48 ≤ b → is_sign b ≡ false
no_sign b low = grind (arith, nat_tests)

distance_signed : (z : ℤ) → position_or_len is_sign (distance_spelling z) ≡ 0
distance_signed (pos n) = refl
distance_signed (negsuc n) = refl

sign_behind : (digits : List ℕ) (z : ℤ) → list_all is_ascii_digit digits ≡ true
    → position_or_len is_sign (digits ++ distance_spelling z) ≡ length digits
sign_behind [] z e = distance_signed z
sign_behind (b ∷ bs) z e =
    let h = and_parts (is_ascii_digit b) (list_all is_ascii_digit bs) e in
    let behind = sign_behind bs z h.1 in
    rw (no_sign b (digit_low b h.0)) (omega (arith, behind))

bracketed : (text : List ℕ) → is_bracketed (91 ∷ (text ++ 93 ∷ [])) ≡ true
bracketed text =
    let long : length (text ++ 93 ∷ []) ≡ length text + 1 = length-append text (93 ∷ []) in
    let some : nat_lt 1 (length (91 ∷ (text ++ 93 ∷ []))) ≡ true =
    lt-ltb 1 (length (91 ∷ (text ++ 93 ∷ []))) (omega (arith, long)) in
    let at : length (91 ∷ (text ++ 93 ∷ [])) - 1 ≡ suc (length text) = omega (arith, long) in
    let last : get_or (91 ∷ (text ++ 93 ∷ [])) (length (91 ∷ (text ++ 93 ∷ [])) - 1) 0 ≡ 93 =
    ap (λ n. get_or (91 ∷ (text ++ 93 ∷ [])) n 0) at ∙ get_or-append_seam text 93 [] 0 in
    and_from _ _ some (ap (λ b. b == 93) last)

inside_is : (text : List ℕ) → inside (91 ∷ (text ++ 93 ∷ [])) ≡ text
inside_is text =
    let long : length (text ++ 93 ∷ []) ≡ length text + 1 = length-append text (93 ∷ []) in
    let at : length (91 ∷ (text ++ 93 ∷ [])) - 2 ≡ length text = omega (arith, long) in
    ap (λ n. take n (text ++ 93 ∷ [])) at ∙ take-append_seam text (93 ∷ [])

-- what is read between brackets
abbrev memory : List ℕ → Result Value TextFault
memory text = as_address (pair (register_at (base_part text)) (offset_at (2 ^ 15) (offset_part text)))

memory_back : (digits : List ℕ) (r : ℕ) (z : ℤ) → list_all is_ascii_digit digits ≡ true
    → register_at (114 ∷ digits) ≡ Ok r → InBound (2 ^ 15) z
    → memory ((114 ∷ digits) ++ distance_spelling z) ≡ Ok (value.Address r z)
memory_back digits r z e reg lt =
    let text = (114 ∷ digits) ++ distance_spelling z in
    let behind = sign_behind digits z e in
    let at : position_or_len is_sign text ≡ length (114 ∷ digits) = omega (arith, behind) in
    let base : base_part text ≡ 114 ∷ digits = ap (λ n. take n text) at
    ∙ take-append_seam (114 ∷ digits) (distance_spelling z) in
    let offset : offset_part text ≡ distance_spelling z = ap (λ n. drop n text) at
    ∙ drop-append_seam (114 ∷ digits) (distance_spelling z) in
    ap (λ b. as_address (pair b (offset_at (2 ^ 15) (offset_part text)))) (ap register_at base ∙ reg)
    ∙ ap (λ o. as_address (pair (Ok r) o)) (ap (offset_at (2 ^ 15)) offset ∙ offset_back (2 ^ 15) z (omega arith) lt)

pub address_back : (r : ℕ) (z : ℤ) → r ≤ 10 → InBound (2 ^ 15) z → address_at (value_spelling (value.Address r z))
    ≡ Ok (value.Address r z)
address_back r z le lt =
    let d = decimal_digits r (omega arith) in
    let text = (114 ∷ decimal r) ++ distance_spelling z in
    cond-true (is_bracketed (91 ∷ (text ++ 93 ∷ []))) (memory (inside (91 ∷ (text ++ 93 ∷ [])))) (Err faults.Form)
    (bracketed text) ∙ ap memory (inside_is text) ∙ memory_back (decimal r) r z d.digits (register_decimal r le) lt
