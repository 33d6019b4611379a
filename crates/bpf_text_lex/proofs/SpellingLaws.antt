-- A number has one spelling: its decimal digits.
use Rattle.std.proofs.Common.{◌≡◌, ℕ, zero, suc, ◌<◌, ◌≤◌, ◌^◌, Bool, true, false, cond, ◌||◌, ◌==◌, List, [], ◌∷◌}
use Rattle.std.{proofs.Common.{length, get_or, Result, Ok, Err, refl, sym, ap, ◌∙◌, arith, rules}, specs.Fmt.{decimal}}
use Rattle.std.specs.{Prelude.{nat_le, nat_lt, IfOk}, Char.{is_ascii_digit}, List.{list_all}}
use Rattle.std.proofs.lemmas.Bool.{leb-true, ltb-true, eqb-true, lt-ltb, le-leb, and_parts, and_from, or_right}
use Rattle.std.proofs.lemmas.Fmt.{digits_decimal, digits_value-decimal, decimal-digits_value, first_decimal}
use Rattle.std.proofs.lemmas.{Fmt.{decimal_digit}, Str.Parse.{IsNumeralModel, numerals_by_fold}}
use Rattle.std.proofs.lemmas.List.Sums.{AllPass-from_list_all}
use Rattle.bpf_text_lex.specs.declared.text_error.TextFault.{TextFault, TheVariants.{Form, Field}}
use Rattle.bpf_text_lex.specs.Numbers.{is_numeral, is_negative, value_after, value_of, number_in}

own : IsNumeralModel (λ ds. list_all is_ascii_digit ds ≡ true) value_of
own = numerals_by_fold _ (search rules) value_after (search rules)

answers : (numeral small negative : Bool) (v n : ℕ) → cond numeral (cond small (Ok v) (Err Field))
    (cond negative (Err Field) (Err Form)) ≡ Ok n → (numeral ≡ true) × (small ≡ true) × (v ≡ n)
answers true true negative v n e = (refl, refl, cc)
answers true false negative v n e = absurd cc
answers false small true v n e = absurd cc
answers false small false v n e = absurd cc

-- what is read is the value of a numeral, within the limit
pub read_as : (limit : ℕ) (word : List ℕ) (n : ℕ) → number_in limit word ≡ Ok n → (is_numeral word ≡ true)
    × (value_of word ≡ n) × (n ≤ limit)
read_as limit word n e =
    let a = answers (is_numeral word) (nat_le (value_of word) limit) (is_negative word) (value_of word) n e in
    let small = leb-true _ _ a.1 in
    (a.0, a.2, omega (arith, small, a.2))

one_digit : (a : Bool) (word : List ℕ) → (length word == 1) ≡ a → (a || nat_lt 48 (get_or word 0 0)) ≡ true
    → get_or word 0 0 ≡ 48 → length word ≡ 1
one_digit true word same h zero_first = eqb-true _ _ same
one_digit false word same h zero_first = (let above : 48 < get_or word 0 0 = ltb-true _ _ h in absurd (omega arith))

is_filled : (word : List ℕ) → ((length word == 1) || nat_lt 48 (get_or word 0 0)) ≡ true → 0 < length word
is_filled [] h = absurd cc
is_filled (b ∷ bs) h = omega arith

-- what is read is the decimal digits of its value
pub spelled_if : (limit : ℕ) (word : List ℕ) (r : Result ℕ TextFault) → limit < 2 ^ 64 → r ≡ number_in limit word
    → IfOk r (λ n. (word ≡ decimal n) × (n ≤ limit))
spelled_if limit word (Ok n) fits e =
    let a = read_as limit word n (sym e) in
    let parts = and_parts (list_all is_ascii_digit word) ((length word == 1) || nat_lt 48 (get_or word 0 0)) a.0 in
    let back = decimal-digits_value own word parts.0 (is_filled word parts.1) (one_digit (length word == 1) word refl
    parts.1) (omega (arith, a.1, a.2)) in
    (sym back ∙ ap decimal a.1, a.2)
spelled_if limit word (Err error) fits e = tt

no_zero_in_front : (n : ℕ) → n < 2 ^ 64 → ((length (decimal n) == 1) || nat_lt 48 (get_or (decimal n) 0 0)) ≡ true
no_zero_in_front zero fits = rw (decimal_digit 0 (omega arith)) refl
no_zero_in_front (suc n) fits =
    or_right (length (decimal (suc n)) == 1) _ (lt-ltb _ _ (first_decimal (suc n) (omega arith) fits))

is_numeral-decimal : (n : ℕ) → n < 2 ^ 64 → is_numeral (decimal n) ≡ true
is_numeral-decimal n fits = and_from (list_all is_ascii_digit (decimal n)) _ (digits_decimal own n fits)
    (no_zero_in_front n fits)

-- the decimal digits of a number within the limit are read as it
pub in_field : (limit n : ℕ) → limit < 2 ^ 64 → n ≤ limit → number_in limit (decimal n) ≡ Ok n
in_field limit n fits le =
    let below : n < 2 ^ 64 = omega arith in
    rw (is_numeral-decimal n below, digits_value-decimal own n below, le-leb n limit le) refl

-- ---- digits

pub digit_low : (b : ℕ) → is_ascii_digit b ≡ true → 48 ≤ b
digit_low b e = let h = and_parts _ _ e in leb-true 48 b h.0

-- what the digits of a number are
pub record Digits (word : List ℕ) : Type 0 where
  pub numeral : is_numeral word ≡ true
  pub digits : list_all is_ascii_digit word ≡ true
  pub filled : 0 < length word
  pub first : 48 ≤ get_or word 0 0

pub decimal_digits : (n : ℕ) → n < 2 ^ 64 → Digits (decimal n)
decimal_digits n fits =
    let numeral = is_numeral-decimal n fits in
    let parts = and_parts (list_all is_ascii_digit (decimal n)) _ numeral in
    let filled = is_filled (decimal n) parts.1 in
    let first = AllPass-from_list_all is_ascii_digit (decimal n) parts.0 0 0 filled in
    record { numeral = numeral; digits = parts.0; filled = filled; first = digit_low _ first }

-- what is read without a sign is a numeral
pub numeral_if : (limit : ℕ) (word : List ℕ) (n : ℕ) → number_in limit word ≡ Ok n → is_numeral word ≡ true
numeral_if limit word n e = (read_as limit word n e).0
