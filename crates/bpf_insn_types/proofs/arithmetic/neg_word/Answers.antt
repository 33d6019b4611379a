-- What is low in a negative modulo 2 ^ 64 is the negative modulo the width.
use Rattle.std.proofs.Common.{◌∙◌, ◌≡◌, ℕ, ◌+◌, ◌-◌, ◌%◌, ◌^◌, ◌<◌, arith}
use Rattle.bpf_insn_types.specs.{declared.insn.Width.{Width, TheVariants.{W32, W64}}, Words.{modulus, negated}}
use Rattle.bpf_insn_types.proofs.arithmetic.neg_word.Goals as goal

negative-low : (width : Width) (a : ℕ) → a < 2 ^ 64 → (0 + (2 ^ 64 - a)) % 2 ^ 64 % modulus width ≡ negated width a
unfolding negated
negative-low W32 a h = omega arith
negative-low W64 a h = omega arith

pub returns : goal.returns
returns c = c.low_part.ensures ∙ negative-low c.args.width c.args.a c.ranges.a.fits
