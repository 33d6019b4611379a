-- A half of a word that is replaced.
use Rattle.std.proofs.Common.{◌≡◌, ℕ, zero, suc, ◌+◌, ◌-◌, ◌*◌, ◌/◌, ◌%◌, ◌^◌, ◌<◌, ◌∙◌, ap, arith, bit_and, bit_or}
use Rattle.std.{specs.Prelude.{◌==◌, if◌then◌else◌}, proofs.lemmas.Nat.{and_mask, or_comm, or_shifted}}
use Rattle.std.proofs.lemmas.Nat.Bits.{and_high_mask}
use Rattle.array_maps.specs.{declared.access.Half.{TheVariants.{Low, High}, Half}, Halves.{half_of, with_half}}

-- of a number that replaces a half its lower half counts
pub half_counts : (half : Half) (word value : ℕ) → with_half half word (half_of Low value) ≡ with_half half word value
unfolding with_half half_of
half_counts Low word value = omega arith
half_counts High word value = omega arith

-- by masks

masked : (high low a b : ℕ) → high ≡ a * 2 ^ 32 → low ≡ b → b < 2 ^ 32 → bit_or high low ≡ a * 2 ^ 32 + b
masked high low a b high_is low_is below =
    ap (λ (n : ℕ). bit_or n low) high_is ∙ ap (bit_or (a * 2 ^ 32)) low_is ∙ or_shifted a 32 b below

low_blend : (word value : ℕ) → word < 2 ^ 64 → value < 2 ^ 64
    → bit_or (bit_and word 18446744069414584320) (bit_and (value * 1 % 18446744073709551616) 4294967295)
    ≡ with_half Low word value
unfolding with_half
low_blend word value below fits =
    let same : value * 1 % 18446744073709551616 ≡ value = omega arith in
    let within : 32 < 65 = omega arith in
    masked (bit_and word 18446744069414584320) (bit_and (value * 1 % 18446744073709551616) 4294967295)
    (word / 2 ^ 32) (value % 2 ^ 32) (and_high_mask 64 32 (omega arith) word below)
    (ap (λ (n : ℕ). bit_and n 4294967295) same ∙ and_mask value 32) (omega arith)
    ∙ omega (arith, below)

high_blend : (word value : ℕ) → word < 2 ^ 64 → value < 2 ^ 64
    → bit_or (bit_and word 4294967295) (bit_and (value * 4294967296 % 18446744073709551616) 18446744069414584320)
    ≡ with_half High word value
unfolding with_half
high_blend word value below fits =
    let shifted : ℕ = value * 4294967296 % 18446744073709551616 in
    let small : shifted < 2 ^ 64 = omega arith in
    let up : shifted / 2 ^ 32 ≡ value % 2 ^ 32 = omega arith in
    or_comm (bit_and word 4294967295) (bit_and shifted 18446744069414584320)
    ∙ masked (bit_and shifted 18446744069414584320) (bit_and word 4294967295) (shifted / 2 ^ 32) (word % 2 ^ 32)
    (and_high_mask 64 32 (omega arith) shifted small) (and_mask word 32) (omega arith)
    ∙ omega (arith, up)

pub blended : (place word value : ℕ) → place < 2 → word < 2 ^ 64 → value < 2 ^ 64
    → bit_or (bit_and word (18446744073709551615 - 4294967295 * 2 ^ (32 * place) % 18446744073709551616))
    (bit_and (value * 2 ^ (32 * place) % 18446744073709551616) (4294967295 * 2 ^ (32 * place) % 18446744073709551616))
    ≡ with_half (if place == 0 then Low else High) word value
blended zero word value few below fits = low_blend word value below fits
blended (suc zero) word value few below fits = high_blend word value below fits
blended (suc (suc place)) word value few below fits = absurd (omega arith)
