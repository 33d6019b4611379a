-- The low number stays where its sign bit is clear, and else gains the bits above.
use Rattle.std.proofs.{Common.{◌≡◌, ◌∙◌, ℕ, ◌+◌, ◌-◌, ◌/◌, ◌%◌, ◌<◌, ◌≤◌, ap, arith}, lemmas.Bool.Decides.{nat_tests}}
use Rattle.bpf_insn_types.specs.Words.{moved_signed, sign_extended, low_modulus, modulus}
use Rattle.bpf_insn_types.proofs.moves.movsx_word.Goals as goal

-- the sign bit is clear in the lower half of the range
sign-clear : (low n x : ℕ) → x ≤ low / 2 → x ≡ sign_extended (low + 1) n x
sign-clear low n x h = grind (arith, nat_tests)

-- and set in the upper half
sign-set : (low top x : ℕ) → low / 2 < x → x + (top - low) ≡ sign_extended (low + 1) (top + 1) x
sign-set low top x h = grind (arith, nat_tests)

pub returns-then-number-low : goal.returns-then-number-low
unfolding moved_signed
returns-then-number-low c =
    sign-clear c.greatest_low-low.result (modulus c.args.width) (c.args.b % (c.greatest_low-low.result + 1))
    c.if-number-low.true
    ∙ ap (λ m. sign_extended m (modulus c.args.width) (c.args.b % m)) c.greatest_low-low.ensures

pub returns-else-number-low : goal.returns-else-number-low
unfolding moved_signed
returns-else-number-low c =
    sign-set c.greatest_low-low.result c.greatest.result (c.args.b % (c.greatest_low-low.result + 1))
    c.if-number-low.false
    ∙ ap (λ m. sign_extended m (c.greatest.result + 1) (c.args.b % m)) c.greatest_low-low.ensures
    ∙ ap (λ n. sign_extended (low_modulus c.args.bits) n (c.args.b % low_modulus c.args.bits)) c.greatest.ensures
