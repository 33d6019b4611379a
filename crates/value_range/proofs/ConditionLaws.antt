-- The opposite of a comparison says that it doesn't hold.
use Rattle.std.proofs.Common.{◌≡◌, ℕ, ℤ, pos, negsuc, ◌%◌, Bool, true, false, not, refl, arith}
use Rattle.std.{specs.Prelude.{◌==◌, nat_lt, nat_le, int_lt, int_le}, proofs.lemmas.Bool.Decides.{nat_tests}}
use Rattle.bpf_insn_types.specs.{declared.insn.{Width.{Width}, Compare.{Compare}}, Words.{modulus, signed, holds}}
use Rattle.bpf_insn_types.specs.declared.insn.Compare.TheVariants.{Eq, Gt, Ge, Set, Ne, Sgt, Sge, Lt, Le, Slt, Sle}
use Rattle.value_range.specs.RefineRows.{says, opposite}

not-not : (b : Bool) → b ≡ not (not b)
not-not true = refl
not-not false = refl

le-opposite : (a b : ℕ) → nat_le a b ≡ not (nat_lt b a)
le-opposite a b = grind (arith, nat_tests)

lt-opposite : (a b : ℕ) → nat_lt a b ≡ not (nat_le b a)
lt-opposite a b = grind (arith, nat_tests)

int-le-opposite : (a b : ℤ) → int_le a b ≡ not (int_lt b a)
int-le-opposite (pos a) (pos b) = grind (arith, nat_tests)
int-le-opposite (pos a) (negsuc b) = refl
int-le-opposite (negsuc a) (pos b) = refl
int-le-opposite (negsuc a) (negsuc b) = grind (arith, nat_tests)

int-lt-opposite : (a b : ℤ) → int_lt a b ≡ not (int_le b a)
int-lt-opposite a b = rw (int-le-opposite b a) (not-not (int_lt a b))

pub opposite_says : (compare : Compare) (width : Width) (a b : ℕ) → says (opposite compare) width a b
    ≡ not (holds width compare a b)
unfolding holds
opposite_says Eq width a b = refl
opposite_says Gt width a b = le-opposite (a % modulus width) (b % modulus width)
opposite_says Ge width a b = lt-opposite (a % modulus width) (b % modulus width)
opposite_says Set width a b = refl
opposite_says Ne width a b = not-not (a % modulus width == b % modulus width)
opposite_says Sgt width a b = int-le-opposite (signed width (a % modulus width)) (signed width (b % modulus width))
opposite_says Sge width a b = int-lt-opposite (signed width (a % modulus width)) (signed width (b % modulus width))
opposite_says Lt width a b = le-opposite (b % modulus width) (a % modulus width)
opposite_says Le width a b = lt-opposite (b % modulus width) (a % modulus width)
opposite_says Slt width a b = int-le-opposite (signed width (b % modulus width)) (signed width (a % modulus width))
opposite_says Sle width a b = int-lt-opposite (signed width (b % modulus width)) (signed width (a % modulus width))
