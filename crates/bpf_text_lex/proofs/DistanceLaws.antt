-- What `{:+}` writes of a number.
use Rattle.std.proofs.Common.{◌≡◌, ℕ, suc, ◌^◌, ◌-◌, ◌++◌, length, Bool, true, false, List, [], refl, append-nil, arith}
use Rattle.std.{specs.Prelude.{ℤ, pos, negsuc, nat_lt}, proofs.lemmas.Bool.Decides.{nat_tests}}
use Rattle.std.specs.Fmt.{decimal, format_spec, styled_signed_decimal, padded_integral, sign_text_with, char_count}
use Rattle.bpf_text_lex.specs.PrintedLines.{distance_spelling}

-- a sign and the digits
with_sign : (negative : Bool) (digits : List ℕ) → padded_integral (format_spec 32 0 1 0 (2 ^ 64 - 1)) negative [] digits
    ≡ sign_text_with true negative ++ digits
unfolding padded_integral char_count
with_sign false digits = let none : 0 - length digits ≡ 0 = omega arith in rw (none, append-nil digits) refl
with_sign true digits = let none : 0 - length digits ≡ 0 = omega arith in rw (none, append-nil digits) refl

-- a distance always has a sign
pub signed : (z : ℤ) → styled_signed_decimal (format_spec 32 0 1 0 (2 ^ 64 - 1)) z ≡ distance_spelling z
signed (pos n) = let above : nat_lt n 0 ≡ false = grind (arith, nat_tests) in rw above (with_sign false (decimal n))
signed (negsuc n) = with_sign true (decimal (suc n))
