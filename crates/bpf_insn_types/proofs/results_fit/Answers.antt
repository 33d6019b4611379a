-- Each operator's result is a remainder by the modulus, or not above an operand.
use Rattle.std.proofs.Common.{ℕ, ℤ, pos, negsuc, ◌+◌, ◌-◌, ◌*◌, ◌/◌, ◌%◌, ◌^◌, ◌<◌, ◌≤◌, Bool, true, false, arith}
use Rattle.std.specs.Prelude.{if◌then◌else◌, ◌==◌, nat_lt, bit_or, bit_xor, int_div, int_rem, unsigned_abs}
use Rattle.std.{specs.Int.{cast_unsigned, swap_bytes}, proofs.lemmas.Nat.{mod_below, or_lt, xor_lt, and_le_l}}
use Rattle.std.proofs.Math.Nat.{div-le_self}
use Rattle.bpf_insn_types.specs.declared.insn.{Width.{Width, TheVariants.{W32, W64}}, AluOp.{AluOp}}
use Rattle.bpf_insn_types.specs.declared.insn.AluOp.TheVariants.{Add, Sub, Mul, Div, Sdiv, Or, And, Lsh, Rsh, Mod, Smod}
use Rattle.bpf_insn_types.specs.declared.insn.{AluOp.TheVariants.{Xor, Mov, Arsh}, ByteOrder.{ByteOrder}}
use Rattle.bpf_insn_types.specs.declared.insn.{ByteOrder.TheVariants.{Le, Be, Swap}, EndianBits.{EndianBits}}
use Rattle.bpf_insn_types.specs.declared.insn.{EndianBits.TheVariants.{B16, B32, B64}, MovsxBits.{MovsxBits}}
use Rattle.bpf_insn_types.specs.declared.insn.MovsxBits.TheVariants.{B8, B16 as Low16, B32 as Low32}
use Rattle.bpf_insn_types.specs.Words.{alu, computed, negated, moved_signed, in_order, modulus, low_modulus}
use Rattle.bpf_insn_types.specs.Words.{endian_modulus, endian_integers, shift, signed, integers}
use Rattle.bpf_insn_types.proofs.{SignedLaws.{half, signed-abs, div-abs, rem-abs, rem-le}, WordLaws.{modulus-positive}}
use Rattle.bpf_insn_types.proofs.results_fit.Goals as goal

-- whichever is chosen
chosen : (test : Bool) (m x y : ℕ) → x < m → y < m → (if test then x else y) < m
chosen true m x y h k = h
chosen false m x y h k = k

-- bit operators bring in no higher bit
or-fits : (width : Width) (a b : ℕ) → a < modulus width → b < modulus width → bit_or a b < modulus width
or-fits W32 a b h k = or_lt 32 a b h k
or-fits W64 a b h k = or_lt 64 a b h k

xor-fits : (width : Width) (a b : ℕ) → a < modulus width → b < modulus width → bit_xor a b < modulus width
xor-fits W32 a b h k = xor_lt 32 a b h k
xor-fits W64 a b h k = xor_lt 64 a b h k

-- the bits of a signed number of the width
cast-fits : (width : Width) (z : ℤ) → unsigned_abs z ≤ half width → cast_unsigned (integers width) z < modulus width
cast-fits W32 (pos n) h = omega arith
cast-fits W32 (negsuc n) h = omega arith
cast-fits W64 (pos n) h = omega arith
cast-fits W64 (negsuc n) h = omega arith

-- what is not above an operand
below : (m a r : ℕ) → r ≤ a → a < m → r < m
below m a r h k = omega arith

-- on numbers of the width
computed-fits : (width : Width) (op : AluOp) (a b : ℕ) → a < modulus width → b < modulus width →
    computed width op a b < modulus width
computed-fits width Add a b h k = mod_below (a + b) (modulus width) (modulus-positive width)
computed-fits width Sub a b h k = mod_below (a + (modulus width - b)) (modulus width) (modulus-positive width)
computed-fits width Mul a b h k = mod_below (a * b) (modulus width) (modulus-positive width)
computed-fits width Div a b h k = chosen (b == 0) (modulus width) 0 (a / b) (modulus-positive width)
    (below (modulus width) a (a / b) (div-le_self a b) h)
computed-fits width Sdiv a b h k =
    let z : ℤ = int_div (signed width a) (signed width b) in
    let small : unsigned_abs z ≤ half width = omega (
      arith,
      div-abs (signed width a) (signed width b),
      signed-abs width a h,
    ) in
    chosen (b == 0) (modulus width) 0 (cast_unsigned (integers width) z) (modulus-positive width)
    (cast-fits width z small)
computed-fits width Or a b h k = or-fits width a b h k
computed-fits width And a b h k = below (modulus width) a _ (and_le_l a b) h
computed-fits width Lsh a b h k = mod_below (a * 2 ^ shift width b) (modulus width) (modulus-positive width)
computed-fits width Rsh a b h k = below (modulus width) a _ (div-le_self a (2 ^ shift width b)) h
computed-fits width Mod a b h k =
    chosen (b == 0) (modulus width) a (a % b) h (below (modulus width) a (a % b) (rem-le a b) h)
computed-fits width Smod a b h k =
    let z : ℤ = int_rem (signed width a) (signed width b) in
    let small : unsigned_abs z ≤ half width = omega (
      arith,
      rem-abs (signed width a) (signed width b),
      signed-abs width a h,
    ) in
    chosen (b == 0) (modulus width) a (cast_unsigned (integers width) z) h (cast-fits width z small)
computed-fits width Xor a b h k = xor-fits width a b h k
computed-fits width Mov a b h k = k
computed-fits width Arsh a b h k =
    chosen (nat_lt (2 * a) (modulus width)) (modulus width) _ _
    (below (modulus width) a _ (div-le_self a (2 ^ shift width b)) h)
    (omega (arith, modulus-positive width))

alu-fits : (width : Width) (op : AluOp) (a b : ℕ) → alu width op a b < modulus width
unfolding alu
alu-fits width op a b =
    computed-fits width op (a % modulus width) (b % modulus width)
    (mod_below a (modulus width) (modulus-positive width))
    (mod_below b (modulus width) (modulus-positive width))

negated-fits : (width : Width) (a : ℕ) → negated width a < modulus width
unfolding negated
negated-fits width a = mod_below (modulus width - a % modulus width) (modulus width) (modulus-positive width)

-- low bits are among the width's
low-positive : (bits : MovsxBits) → 0 < low_modulus bits
low-positive B8 = omega arith
low-positive Low16 = omega arith
low-positive Low32 = omega arith

low-most : (width : Width) (bits : MovsxBits) → low_modulus bits ≤ modulus width
low-most W32 B8 = omega arith
low-most W32 Low16 = omega arith
low-most W32 Low32 = omega arith
low-most W64 B8 = omega arith
low-most W64 Low16 = omega arith
low-most W64 Low32 = omega arith

-- a sign extension from below m to below n
extended : (m n x : ℕ) → x < m → m ≤ n → (if nat_lt (2 * x) m then x else x + (n - m)) < n
extended m n x h k = chosen (nat_lt (2 * x) m) n x (x + (n - m)) (omega arith) (omega arith)

moved-fits : (width : Width) (bits : MovsxBits) (b : ℕ) → moved_signed width bits b < modulus width
unfolding moved_signed
moved-fits width bits b =
    extended (low_modulus bits) (modulus width) (b % low_modulus bits) (mod_below b (low_modulus bits)
    (low-positive bits))
    (low-most width bits)

low-fits : (bits : EndianBits) (a : ℕ) → a % endian_modulus bits < endian_modulus bits
low-fits B16 a = omega arith
low-fits B32 a = omega arith
low-fits B64 a = omega arith

-- reversed bytes are as many
swapped-fits : (bits : EndianBits) (a : ℕ) → swap_bytes (endian_integers bits) a < endian_modulus bits
swapped-fits B16 a = omega arith
swapped-fits B32 a = omega arith
swapped-fits B64 a = omega arith

order-fits : (order : ByteOrder) (bits : EndianBits) (a : ℕ) → in_order order bits a < endian_modulus bits
unfolding in_order
order-fits Le bits a = low-fits bits a
order-fits Be bits a = swapped-fits bits (a % endian_modulus bits)
order-fits Swap bits a = swapped-fits bits (a % endian_modulus bits)

endian-most : (bits : EndianBits) → endian_modulus bits ≤ 2 ^ 64
endian-most B16 = omega arith
endian-most B32 = omega arith
endian-most B64 = omega arith

order-word : (order : ByteOrder) (bits : EndianBits) (a : ℕ) → in_order order bits a < 2 ^ 64
order-word order bits a = omega (arith, order-fits order bits a, endian-most bits)

pub returns : goal.returns
returns c = record {
  alu_fits = alu-fits;
  negated_fits = negated-fits;
  moved_signed_fits = moved-fits;
  in_order_fits = order-fits;
  in_order_is_word = order-word;
}
