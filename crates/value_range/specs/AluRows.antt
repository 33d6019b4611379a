-- What an operation leaves of spans, a definition a row.
use Rattle.std.specs.Prelude.{ℕ, ◌+◌, ◌-◌, ◌*◌, ◌/◌, ◌%◌, ◌^◌, min, max, Bool, ◌&&◌, ◌==◌, nat_lt, nat_le}
use Rattle.std.specs.{Prelude.{if◌then◌else◌, bit_or}, Int.{w64, leading_zeros}}
use Rattle.bpf_insn_types.specs.{declared.insn.{Width.{Width, TheVariants.{W32, W64}}, AluOp.{AluOp}}, Words.{shift}}
use Rattle.bpf_insn_types.specs.declared.insn.AluOp.TheVariants.{Add, Sub, Mul, Div, Sdiv, Or, And, Lsh, Rsh, Mod, Smod}
use Rattle.bpf_insn_types.specs.declared.insn.{AluOp.TheVariants.{Xor, Mov, Arsh}, ByteOrder.{ByteOrder}}
use Rattle.bpf_insn_types.specs.declared.insn.{ByteOrder.TheVariants.{Le, Be, Swap}, EndianBits.{EndianBits}}
use Rattle.bpf_insn_types.specs.declared.insn.MovsxBits.{MovsxBits}
use Rattle.bpf_insn_types.specs.Words.{alu, negated, moved_signed, in_order, modulus, low_modulus, endian_modulus}
use Rattle.value_range.specs.{Spans.{Span, is_exact, exact, top, norm}, declared.operation.Operation.{Operation}}
use Rattle.value_range.specs.declared.operation.Operation.TheVariants.{Alu, Neg, Movsx, Endian}

-- an operation's meaning on two words, of which those of one operand leave the other
abbrev pub meant : Operation → Width → ℕ → ℕ → ℕ
meant (Alu op) width a b = alu width op a b
meant Neg width a b = negated width a
meant (Movsx bits) width a b = moved_signed width bits b
meant (Endian order bits) width a b = in_order order bits a

-- a span of numbers of 32 bits, in place of one that may have greater ones
unfoldable pub low32 : Span → Span
low32 r = if nat_lt r.hi (2 ^ 32) then r else if is_exact r then exact (r.lo % 2 ^ 32) else top W32

-- an operand, at 32 bits of 32 bits
abbrev pub range_at_width : Width → Span → Span
range_at_width W32 r = low32 r
range_at_width W64 r = r

-- byte orders alone take it as it is
abbrev pub operand : Operation → Width → Span → Span
operand (Alu op) width r = range_at_width width r
operand Neg width r = range_at_width width r
operand (Movsx bits) width r = range_at_width width r
operand (Endian order bits) width r = r

-- the least 2 ^ k - 1 that is not below a word
unfoldable pub filled : ℕ → ℕ
filled x = 2 ^ (64 - leading_zeros w64 x) - 1

-- ADD
unfoldable pub added : Width → Span → Span → Span
added width a b =
    if nat_lt (a.hi + b.hi) (modulus width) then norm (a.lo + b.lo) (a.hi + b.hi) (min a.zeros b.zeros)
    else norm 0 (modulus width - 1) (min a.zeros b.zeros)

-- SUB
unfoldable pub subtracted : Width → Span → Span → Span
subtracted width a b =
    if nat_le b.hi a.lo then norm (a.lo - b.hi) (a.hi - b.lo) (min a.zeros b.zeros)
    else norm 0 (modulus width - 1) (min a.zeros b.zeros)

-- MUL
unfoldable pub multiplied : Width → Span → Span → Span
multiplied width a b =
    if nat_lt (a.hi * b.hi) (modulus width) then norm (a.lo * b.lo) (a.hi * b.hi) (min (a.zeros + b.zeros) 64)
    else norm 0 (modulus width - 1) (min (a.zeros + b.zeros) 64)

-- DIV by a known number
abbrev pub divided_by : Span → ℕ → Span
divided_by a c = if c == 0 then exact 0 else norm (a.lo / c) (a.hi / c) 0

-- DIV
unfoldable pub divided : Span → Span → Span
divided a b = if is_exact b then divided_by a b.lo else norm 0 a.hi 0

-- MOD by a known number
abbrev pub left_over_by : Span → ℕ → Span
left_over_by a c = if c == 0 then a else if nat_lt a.hi c then a else norm 0 (c - 1) 0

-- MOD
unfoldable pub left_over : Span → Span → Span
left_over a b = if is_exact b then left_over_by a b.lo else norm 0 a.hi 0

-- OR
unfoldable pub with_bits : Span → Span → Span
with_bits a b = norm (max a.lo b.lo) (filled (bit_or a.hi b.hi)) (min a.zeros b.zeros)

-- AND
unfoldable pub common_bits : Span → Span → Span
common_bits a b = norm 0 (min a.hi b.hi) (max a.zeros b.zeros)

-- XOR
unfoldable pub other_bits : Span → Span → Span
other_bits a b = norm 0 (filled (bit_or a.hi b.hi)) (min a.zeros b.zeros)

-- LSH by a known amount, at most 63
unfoldable pub shifted_left_by : Width → Span → ℕ → Span
shifted_left_by width a s =
    if nat_lt (a.hi * 2 ^ s) (modulus width) then norm (a.lo * 2 ^ s) (a.hi * 2 ^ s) (min (a.zeros + s) 64)
    else norm 0 (modulus width - 1) (min (a.zeros + s) 64)

-- LSH
unfoldable pub shifted_left : Width → Span → Span → Span
shifted_left width a b =
    if is_exact b then shifted_left_by width a (shift width b.lo)
    else norm 0 (modulus width - 1) a.zeros

-- RSH by a known amount
abbrev pub shifted_right_by : Span → ℕ → Span
shifted_right_by a s = norm (a.lo / 2 ^ s) (a.hi / 2 ^ s) (a.zeros - s)

-- RSH
unfoldable pub shifted_right : Width → Span → Span → Span
shifted_right width a b = if is_exact b then shifted_right_by a (shift width b.lo) else norm 0 a.hi 0

-- ARSH
unfoldable pub shifted_signed : Width → Span → Span → Span
shifted_signed width a b = if nat_lt a.hi (modulus width / 2) then shifted_right width a b else top width

-- NEG
unfoldable pub negative : Width → Span → Span
negative width a = norm 0 (modulus width - 1) a.zeros

-- MOVSX
unfoldable pub extended_range : Width → MovsxBits → Span → Span
extended_range width bits b = if nat_lt b.hi (low_modulus bits / 2) then b else top width

-- every number of n bits
abbrev pub top_bits : EndianBits → Span
top_bits bits = record { lo = 0; hi = endian_modulus bits - 1; zeros = 0 }

-- le
unfoldable pub little : EndianBits → Span → Span
little bits a = if nat_lt a.hi (endian_modulus bits) then a else top_bits bits

-- byte orders: be and swap know nothing
abbrev pub ordered : ByteOrder → EndianBits → Span → Span
ordered Le bits a = little bits a
ordered Be bits a = top_bits bits
ordered Swap bits a = top_bits bits

-- the row of an operator
abbrev pub alu_row : AluOp → Width → Span → Span → Span
alu_row Add width a b = added width a b
alu_row Sub width a b = subtracted width a b
alu_row Mul width a b = multiplied width a b
alu_row Div width a b = divided a b
alu_row Mod width a b = left_over a b
alu_row Sdiv width a b = top width
alu_row Smod width a b = top width
alu_row Or width a b = with_bits a b
alu_row And width a b = common_bits a b
alu_row Xor width a b = other_bits a b
alu_row Lsh width a b = shifted_left width a b
alu_row Rsh width a b = shifted_right width a b
alu_row Arsh width a b = shifted_signed width a b
alu_row Mov width a b = b

-- the row of an operation
abbrev pub row : Operation → Width → Span → Span → Span
row (Alu op) width a b = alu_row op width a b
row Neg width a b = negative width a
row (Movsx bits) width a b = extended_range width bits b
row (Endian order bits) width a b = ordered order bits a

-- whether all operands that an operator reads are exact
abbrev pub alu_reads_exact : AluOp → Span → Span → Bool
alu_reads_exact Mov a b = is_exact b
alu_reads_exact op a b = is_exact a && is_exact b

-- and an operation
abbrev pub reads_exact : Operation → Span → Span → Bool
reads_exact (Alu op) a b = alu_reads_exact op a b
reads_exact Neg a b = is_exact a
reads_exact (Movsx bits) a b = is_exact b
reads_exact (Endian order bits) a b = is_exact a

-- of exact operands the meaning, else the row
unfoldable pub of_operands : Operation → Width → Span → Span → Span
of_operands operation width a b =
    if reads_exact operation a b then exact (meant operation width a.lo b.lo) else row operation width a b

-- what an operation leaves of two spans
abbrev pub span_of : Operation → Width → Span → Span → Span
span_of operation width a b = of_operands operation width (operand operation width a) (operand operation width b)
