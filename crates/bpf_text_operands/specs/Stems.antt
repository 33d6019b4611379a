-- What words say: the mnemonic whose word it is.
use Rattle.std.specs.Prelude.{ℕ, ◌-◌, if◌then◌else◌, List, [], ◌∷◌, length, take, drop, codes, Option, Some, None}
use Rattle.std.specs.{Option.{option_or}, Str.{bytes_eq}}
use Rattle.bpf_insn_types.specs.declared.insn.{Width.{Width}, Size.{Size}, AtomicOp.{AtomicOp}}
use Rattle.bpf_insn_types.specs.declared.insn.Width.TheVariants as width
use Rattle.bpf_insn_types.specs.declared.insn.Size.TheVariants as size
use Rattle.bpf_insn_types.specs.declared.insn.EndianBits.TheVariants as endian
use Rattle.bpf_insn_types.specs.declared.insn.MovsxBits.TheVariants as movsx
use Rattle.bpf_insn_types.specs.declared.insn.AluOp.TheVariants as op
use Rattle.bpf_insn_types.specs.declared.insn.ByteOrder.TheVariants as order
use Rattle.bpf_insn_types.specs.declared.insn.Compare.TheVariants as compare
use Rattle.bpf_insn_types.specs.declared.insn.Callee.TheVariants as callee
use Rattle.bpf_insn_types.specs.declared.insn.SimpleOp.TheVariants as simple
use Rattle.bpf_insn_types.specs.declared.insn.AtomicOp.TheVariants as atomic
use Rattle.bpf_insn_types.specs.declared.insn.ImmKind.TheVariants as kind
use Rattle.bpf_text_lex.specs.declared.mnemonic.Mnemonic.{Mnemonic}
use Rattle.bpf_text_lex.specs.MnemonicWords.{alu_word, order_word, compare_word, callee_word, atomic_word, kind_word}
use Rattle.bpf_text_lex.specs.declared.mnemonic.Mnemonic.TheVariants as mnemonic
use Rattle.bpf_text_operands.specs.declared.stem.Stem.{Stem}
use Rattle.bpf_text_operands.specs.declared.stem.Stem.TheVariants as stem

-- the word of a stem
abbrev pub stem_word : Stem → List ℕ
stem_word stem.Ja = codes "ja"
stem_word stem.Ja32 = codes "ja32"
stem_word stem.Exit = codes "exit"
stem_word (stem.Call c) = callee_word c
stem_word (stem.LoadImm k) = kind_word k
stem_word (stem.Alu o) = alu_word o
stem_word stem.Neg = codes "neg"
stem_word (stem.Movsx width.W32) = codes "mov32s"
stem_word (stem.Movsx width.W64) = codes "mov64s"
stem_word (stem.Endian o) = order_word o
stem_word (stem.Jump c) = compare_word c
stem_word stem.Load = codes "ldx"
stem_word stem.LoadSx = codes "ldxs"
stem_word stem.StoreImm = codes "st"
stem_word stem.Store = codes "stx"

-- all stems
abbrev pub stems : List Stem
stems =
    stem.Ja ∷ stem.Ja32 ∷ stem.Exit ∷ stem.Call callee.Helper ∷ stem.Call callee.Local ∷ stem.Call callee.Btf
    ∷ stem.LoadImm kind.Number ∷ stem.LoadImm kind.MapFd ∷ stem.LoadImm kind.MapFdValue ∷ stem.LoadImm kind.Variable
    ∷ stem.LoadImm kind.Code ∷ stem.LoadImm kind.Map ∷ stem.LoadImm kind.MapValue
    ∷ stem.Alu op.Add ∷ stem.Alu op.Sub ∷ stem.Alu op.Mul ∷ stem.Alu op.Div ∷ stem.Alu op.Sdiv ∷ stem.Alu op.Or
    ∷ stem.Alu op.And
    ∷ stem.Alu op.Lsh ∷ stem.Alu op.Rsh ∷ stem.Alu op.Mod ∷ stem.Alu op.Smod ∷ stem.Alu op.Xor ∷ stem.Alu op.Mov
    ∷ stem.Alu op.Arsh
    ∷ stem.Neg ∷ stem.Movsx width.W32 ∷ stem.Movsx width.W64
    ∷ stem.Endian order.Le ∷ stem.Endian order.Be ∷ stem.Endian order.Swap
    ∷ stem.Jump compare.Eq ∷ stem.Jump compare.Gt ∷ stem.Jump compare.Ge ∷ stem.Jump compare.Set ∷ stem.Jump compare.Ne
    ∷ stem.Jump compare.Sgt
    ∷ stem.Jump compare.Sge ∷ stem.Jump compare.Lt ∷ stem.Jump compare.Le ∷ stem.Jump compare.Slt
    ∷ stem.Jump compare.Sle
    ∷ stem.Load ∷ stem.LoadSx ∷ stem.StoreImm ∷ stem.Store ∷ []

-- the first of some stems whose word this is
abbrev pub first_stem : List ℕ → List Stem → Option Stem
first_stem word [] = None
first_stem word (s ∷ ss) = if bytes_eq word (stem_word s) then Some s else first_stem word ss

-- the mnemonic that a stem alone is
abbrev pub whole : Option Stem → Option Mnemonic
whole (Some stem.Ja) = Some mnemonic.Ja
whole (Some stem.Ja32) = Some mnemonic.Ja32
whole (Some stem.Exit) = Some mnemonic.Exit
whole (Some (stem.Call c)) = Some (mnemonic.Call c)
whole (Some (stem.LoadImm k)) = Some (mnemonic.LoadImm k)
whole _ = None

-- the mnemonic that a stem and bits after it are
abbrev pub sized : Option Stem → Size → Option Mnemonic
sized (Some (stem.Alu o)) size.W = Some (mnemonic.Alu width.W32 o)
sized (Some (stem.Alu o)) size.Dw = Some (mnemonic.Alu width.W64 o)
sized (Some stem.Neg) size.W = Some (mnemonic.Neg width.W32)
sized (Some stem.Neg) size.Dw = Some (mnemonic.Neg width.W64)
sized (Some (stem.Movsx w)) size.B = Some (mnemonic.Movsx w movsx.B8)
sized (Some (stem.Movsx w)) size.H = Some (mnemonic.Movsx w movsx.B16)
sized (Some (stem.Movsx width.W64)) size.W = Some (mnemonic.Movsx width.W64 movsx.B32)
sized (Some (stem.Endian o)) size.H = Some (mnemonic.Endian o endian.B16)
sized (Some (stem.Endian o)) size.W = Some (mnemonic.Endian o endian.B32)
sized (Some (stem.Endian o)) size.Dw = Some (mnemonic.Endian o endian.B64)
sized (Some (stem.Jump c)) size.W = Some (mnemonic.Jump width.W32 c)
sized (Some (stem.Jump c)) size.Dw = Some (mnemonic.Jump width.W64 c)
sized (Some stem.Load) s = Some (mnemonic.Load s)
sized (Some stem.LoadSx) size.B = Some (mnemonic.LoadSx size.B)
sized (Some stem.LoadSx) size.H = Some (mnemonic.LoadSx size.H)
sized (Some stem.LoadSx) size.W = Some (mnemonic.LoadSx size.W)
sized (Some stem.StoreImm) s = Some (mnemonic.StoreImm s)
sized (Some stem.Store) s = Some (mnemonic.Store s)
sized _ s = None

-- a word without its last n bytes, and those
abbrev pub front : ℕ → List ℕ → List ℕ
front n word = take (length word - n) word

abbrev pub ending : ℕ → List ℕ → List ℕ
ending n word = drop (length word - n) word

-- the mnemonic that a word with bits at its end is
abbrev pub sized_at : List ℕ → Option Mnemonic
sized_at word =
    if bytes_eq (ending 2 word) (codes "64") then sized (first_stem (front 2 word) stems) size.Dw
    else if bytes_eq (ending 2 word) (codes "32") then sized (first_stem (front 2 word) stems) size.W
    else if bytes_eq (ending 2 word) (codes "16") then sized (first_stem (front 2 word) stems) size.H
    else if bytes_eq (ending 1 word) (codes "8") then sized (first_stem (front 1 word) stems) size.B
    else None

-- the mnemonic that a word is
abbrev pub mnemonic_at : List ℕ → Option Mnemonic
mnemonic_at word = option_or (whole (first_stem word stems)) (sized_at word)

-- the width of an atomic's first word
abbrev pub atomic_width : List ℕ → Option Width
atomic_width word =
    if bytes_eq word (codes "atomic64") then Some width.W64
    else if bytes_eq word (codes "atomic32") then Some width.W32
    else None

-- all atomic operations
abbrev pub atomics : List AtomicOp
atomics =
    atomic.Simple simple.Add ∷ atomic.Simple simple.Or ∷ atomic.Simple simple.And ∷ atomic.Simple simple.Xor
    ∷ atomic.Fetch simple.Add ∷ atomic.Fetch simple.Or ∷ atomic.Fetch simple.And ∷ atomic.Fetch simple.Xor
    ∷ atomic.Xchg ∷ atomic.Cmpxchg ∷ []

-- the first of some atomic operations whose word this is
abbrev pub first_atomic : List ℕ → List AtomicOp → Option AtomicOp
first_atomic word [] = None
first_atomic word (o ∷ os) = if bytes_eq word (atomic_word o) then Some o else first_atomic word os
