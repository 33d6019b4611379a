-- The halves of a number of 64 bits.
use Rattle.std.{proofs.Common.{◌≡◌, ℕ, ℤ, ◌+◌, ◌*◌, ◌/◌, ◌%◌, ◌<◌, ◌^◌, ap, ◌∙◌, arith}, specs.Prelude.{FitsSigned}}
use Rattle.std.{specs.Int.{w32, cast_unsigned, cast_signed}, proofs.{Math.Facts.{Fits-of_z}, lemmas.Int.{to_z-of_z}}}
use Rattle.bpf_text_lex.specs.Statement.{wide}

low_half : (a b : ℕ) → a < 2 ^ 32 → (a + 2 ^ 32 * b) % 2 ^ 32 ≡ a
low_half a b lt = omega arith

high_half : (a b : ℕ) → a < 2 ^ 32 → (a + 2 ^ 32 * b) / 2 ^ 32 ≡ b
high_half a b lt = omega arith

small : (z : ℤ) → FitsSigned w32 z → cast_unsigned w32 z < 2 ^ 32
small z fits = (Fits-of_z fits).fits

pub wide_low : (imm next : ℤ) → FitsSigned w32 imm → cast_signed w32 (wide imm next % 2 ^ 32) ≡ imm
wide_low imm next fits = ap (cast_signed w32) (low_half (cast_unsigned w32 imm) (cast_unsigned w32 next)
    (small imm fits)) ∙ to_z-of_z w32 imm fits

pub wide_high : (imm next : ℤ) → FitsSigned w32 imm → FitsSigned w32 next → cast_signed w32 (wide imm next / 2 ^ 32)
    ≡ next
wide_high imm next low fits = ap (cast_signed w32) (high_half (cast_unsigned w32 imm) (cast_unsigned w32 next)
    (small imm low)) ∙ to_z-of_z w32 next fits

pub wide_fits : (imm next : ℤ) → FitsSigned w32 imm → FitsSigned w32 next → wide imm next < 2 ^ 64
wide_fits imm next low high = let a = small imm low in let b = small next high in omega (arith, a, b)
