-- Instructions are printed as lines.
use Rattle.std.proofs.Common.{◌≡◌, ℕ, suc, ℤ, pos, negsuc, ◌+◌, ◌<◌, ◌≤◌, ◌^◌, true, List, [], ◌∷◌, ◌++◌, refl, subst}
use Rattle.std.{proofs.Common.{append_assoc, append-nil, arith}, specs.{Fmt.{decimal}, Prelude.{FitsSigned}}}
use Rattle.std.{proofs.lemmas.Fmt.{length-decimal-le}, specs.Int.{w16, w32}}
use Rattle.bpf_insn_types.specs.declared.insn.{ImmKind.{ImmKind}, Operand.{Operand}, Insn.{Insn}}
use Rattle.bpf_insn_types.specs.Values.{OperandFits, InsnFits}
use Rattle.bpf_insn_types.specs.declared.insn.ImmKind.TheVariants as kind
use Rattle.bpf_insn_types.specs.declared.insn.Operand.TheVariants as operand
use Rattle.bpf_insn_types.specs.declared.insn.Insn.TheVariants as insn
use Rattle.bpf_text_lex.specs.declared.{mnemonic.Mnemonic.{Mnemonic}, value.{Value.{Value}, Operands.{Operands}}}
use Rattle.bpf_text_lex.specs.{MnemonicWords.{mnemonic_word}, PrintedLines.{distance_spelling, value_spelling}}
use Rattle.bpf_text_lex.specs.Statement.{mnemonic_of, printed_operand, two_slot_operands, operands_of}
use Rattle.bpf_text_lex.specs.PrintedLines.{operands_spelling, insn_spelling}
use Rattle.bpf_text_lex.proofs.{SpellingLaws.{decimal_digits}, WideLaws.{wide_fits}, EachMnemonic.{each_mnemonic}}
use Rattle.bpf_text_lex.proofs.Bounds.{InBound, near_bound, far_bound}
use Rattle.bpf_text_lex.proofs.SolidWords.{is_solid, digits_solid, LineUpTo, is_line, line_of, Word, joined, line_on}
use Rattle.bpf_text_lex.specs.declared.value.Value.TheVariants as value
use Rattle.bpf_text_lex.specs.declared.value.Operands.TheVariants as operands

-- ---- operands as they are printed

pub decimal_word : (most n : ℕ) → 20 ≤ most → n < 2 ^ 64 → Word most (decimal n)
decimal_word most n le fits =
    let digits = decimal_digits n fits in
    let short = length-decimal-le 20 n (omega arith) (omega arith) fits in
    record {
      solid = digits_solid (decimal n) digits.digits;
      filled = digits.filled;
      short = omega (arith, short, le);
    }

mark : (b : ℕ) → is_solid b ≡ true → Word 1 (b ∷ [])
mark b e = record { solid = rw e refl; filled = omega arith; short = omega arith }

-- a byte before the digits of a number
marked_word : (more b n : ℕ) → is_solid b ≡ true → 20 ≤ more → n < 2 ^ 64 → Word (1 + more) (b ∷ decimal n)
marked_word more b n e le fits = joined 1 more (b ∷ []) (decimal n) (mark b e) (decimal_word more n le fits)

distance_word : (more bound : ℕ) (z : ℤ) → 20 ≤ more → bound ≤ 2 ^ 31 → InBound bound z
    → Word (1 + more) (distance_spelling z)
distance_word more bound (pos n) le small lt = marked_word more 43 n refl le (omega arith)
distance_word more bound (negsuc n) le small lt = marked_word more 45 (suc n) refl le (omega arith)

-- the numbers of an operand are those of its type
abbrev ValueFits : Value → Type 0
ValueFits (value.Reg r) = r ≤ 10
ValueFits (value.Imm z) = FitsSigned w32 z
ValueFits (value.Wide n) = n < 2 ^ 64
ValueFits (value.Distance z) = FitsSigned w16 z
ValueFits (value.FarDistance z) = FitsSigned w32 z
ValueFits (value.Address r z) = (r ≤ 10) × FitsSigned w16 z

value_word : (v : Value) → ValueFits v → Word 50 (value_spelling v)
value_word (value.Reg r) fits = marked_word 49 114 r refl (omega arith) (omega (arith, fits))
value_word (value.Imm (pos n)) fits = decimal_word 50 n (omega arith) (omega (arith, fits.sfits))
value_word (value.Imm (negsuc n)) fits = marked_word 49 45 (suc n) refl (omega arith) (omega (arith, fits.sfits))
value_word (value.Wide n) fits = decimal_word 50 n (omega arith) fits
value_word (value.Distance z) fits = distance_word 49 (2 ^ 15) z (omega arith) (omega arith) (near_bound z fits)
value_word (value.FarDistance z) fits = distance_word 49 (2 ^ 31) z (omega arith) (omega arith) (far_bound z fits)
value_word (value.Address r z) fits =
    let base = joined 1 24 (91 ∷ []) (114 ∷ decimal r) (mark 91 refl) (marked_word 23 114 r refl (omega arith)
    (omega (arith, fits.0))) in
    let offset = distance_word 23 (2 ^ 15) z (omega arith) (omega arith) (near_bound z fits.1) in
    joined 49 1 (91 ∷ 114 ∷ decimal r ++ distance_spelling z) (93 ∷ []) (joined 25 24 (91 ∷ 114 ∷ decimal r)
    (distance_spelling z) base offset) (mark 93 refl)

abbrev OperandsFit : Operands → Type 0
OperandsFit operands.Zero = Unit {0}
OperandsFit (operands.One a) = ValueFits a
OperandsFit (operands.Two a b) = ValueFits a × ValueFits b
OperandsFit (operands.Three a b c) = ValueFits a × ValueFits b × ValueFits c

-- ---- operands after the words of a mnemonic

first_on : (most : ℕ) (words : List ℕ) (a : Value) → 71 ≤ most → LineUpTo 20 words → ValueFits a
    → LineUpTo most (words ++ operands_spelling (operands.One a))
first_on most words a le line fits = line_on 20 50 most words (32 ∷ []) (value_spelling a) le line refl
    (value_word a fits)

further_on : (m most : ℕ) (words front : List ℕ) (v : Value) → m + 52 ≤ most → LineUpTo m (words ++ front) → ValueFits v
    → LineUpTo most (words ++ ((front ++ 44 ∷ 32 ∷ []) ++ value_spelling v))
further_on m most words front v le line fits =
    let same : (words ++ front) ++ ((44 ∷ 32 ∷ []) ++ value_spelling v) ≡ words ++ ((front ++ 44 ∷ 32 ∷ [])
    ++ value_spelling v) = simp append_assoc in
    subst (LineUpTo most) same (line_on m 50 most (words ++ front) (44 ∷ 32 ∷ []) (value_spelling v) (omega arith) line
    refl (value_word v fits))

operands_on : (words : List ℕ) (o : Operands) → LineUpTo 20 words → OperandsFit o
    → LineUpTo 180 (words ++ operands_spelling o)
operands_on words operands.Zero line fits =
    rw (append-nil words) (record { line = line.line; short = omega (arith, line.short) })
operands_on words (operands.One a) line fits = first_on 180 words a (omega arith) line fits
operands_on words (operands.Two a b) line fits = further_on 71 180 words (32 ∷ value_spelling a) b (omega arith)
    (first_on 71 words a (omega arith) line fits.0) fits.1
operands_on words (operands.Three a b c) line fits =
    let two = further_on 71 123 words (32 ∷ value_spelling a) b (omega arith) (first_on 71 words a (omega arith) line
    fits.0) fits.1 in
    further_on 123 180 words (operands_spelling (operands.Two a b)) c (omega arith) two fits.2

-- ---- instructions

operand_fits : (o : Operand) → OperandFits o → ValueFits (printed_operand o)
operand_fits (operand.Imm z) fits = fits
operand_fits (operand.Reg r) fits = fits

load_fits : (k : ImmKind) (dst : ℕ) (imm next : ℤ) → InsnFits (insn.LoadImm k dst imm next)
    → OperandsFit (two_slot_operands k dst imm next)
load_fits kind.Number dst imm next fits = (fits.0, wide_fits imm next fits.1 fits.2)
load_fits kind.MapFdValue dst imm next fits = fits
load_fits kind.MapValue dst imm next fits = fits
load_fits _ dst imm next fits = (fits.0, fits.1)

operands_fit : (i : Insn) → InsnFits i → OperandsFit (operands_of i)
operands_fit (insn.Alu w o dst src) fits = (fits.0, operand_fits src fits.1)
operands_fit (insn.Jump w c dst src offset) fits = (fits.0, operand_fits src fits.1, fits.2)
operands_fit (insn.Load s dst src offset) fits = (fits.0, (fits.1, fits.2))
operands_fit (insn.LoadSx s dst src offset) fits = (fits.0, (fits.1, fits.2))
operands_fit (insn.StoreImm s dst offset imm) fits = ((fits.0, fits.1), fits.2)
operands_fit (insn.Store s dst src offset) fits = ((fits.0, fits.2), fits.1)
operands_fit (insn.Atomic w o dst src offset) fits = ((fits.0, fits.2), fits.1)
operands_fit (insn.LoadImm k dst imm next) fits = load_fits k dst imm next fits
operands_fit _ fits = fits

words_line : (m : Mnemonic) → LineUpTo 20 (mnemonic_word m)
words_line m = line_of 20 (mnemonic_word m) (each_mnemonic (λ m. is_line 20 (mnemonic_word m) ≡ true) (assumption) m)

-- a line of at most 180 bytes
abbrev pub ShortLine : List ℕ → Type 0
ShortLine text = LineUpTo 180 text

-- an instruction is printed as a line
pub insn_is_line : (i : Insn) → InsnFits i → ShortLine (insn_spelling i)
insn_is_line i fits = operands_on (mnemonic_word (mnemonic_of i)) (operands_of i) (words_line (mnemonic_of i))
    (operands_fit i fits)
