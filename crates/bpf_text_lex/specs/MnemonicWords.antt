-- The words of assembler text, by tables.
use Rattle.std.specs.Prelude.{ℕ, List, ◌++◌, codes}
use Rattle.bpf_insn_types.specs.declared.insn.{Width.{Width}, Size.{Size}, EndianBits.{EndianBits}, AluOp.{AluOp}}
use Rattle.bpf_insn_types.specs.declared.insn.{MovsxBits.{MovsxBits}, ByteOrder.{ByteOrder}, Compare.{Compare}}
use Rattle.bpf_insn_types.specs.declared.insn.{Callee.{Callee}, AtomicOp.{AtomicOp}, ImmKind.{ImmKind}}
use Rattle.bpf_insn_types.specs.declared.insn.Width.TheVariants as width
use Rattle.bpf_insn_types.specs.declared.insn.Size.TheVariants as size
use Rattle.bpf_insn_types.specs.declared.insn.EndianBits.TheVariants as endian
use Rattle.bpf_insn_types.specs.declared.insn.MovsxBits.TheVariants as movsx
use Rattle.bpf_insn_types.specs.declared.insn.AluOp.TheVariants as op
use Rattle.bpf_insn_types.specs.declared.insn.ByteOrder.TheVariants as order
use Rattle.bpf_insn_types.specs.declared.insn.Compare.TheVariants as compare
use Rattle.bpf_insn_types.specs.declared.insn.Callee.TheVariants as callee
use Rattle.bpf_insn_types.specs.declared.insn.SimpleOp.TheVariants as simple
use Rattle.bpf_insn_types.specs.declared.insn.AtomicOp.TheVariants as atomic
use Rattle.bpf_insn_types.specs.declared.insn.ImmKind.TheVariants as kind
use Rattle.bpf_text_lex.specs.declared.mnemonic.Mnemonic.{Mnemonic}
use Rattle.bpf_text_lex.specs.declared.mnemonic.Mnemonic.TheVariants as mnemonic

-- the bits of an operation's width
abbrev pub width_word : Width → List ℕ
width_word width.W32 = codes "32"
width_word width.W64 = codes "64"

-- the bits of an access
abbrev pub size_word : Size → List ℕ
size_word size.B = codes "8"
size_word size.H = codes "16"
size_word size.W = codes "32"
size_word size.Dw = codes "64"

abbrev pub endian_word : EndianBits → List ℕ
endian_word endian.B16 = codes "16"
endian_word endian.B32 = codes "32"
endian_word endian.B64 = codes "64"

abbrev pub movsx_word : MovsxBits → List ℕ
movsx_word movsx.B8 = codes "8"
movsx_word movsx.B16 = codes "16"
movsx_word movsx.B32 = codes "32"

abbrev pub alu_word : AluOp → List ℕ
alu_word op.Add = codes "add"
alu_word op.Sub = codes "sub"
alu_word op.Mul = codes "mul"
alu_word op.Div = codes "div"
alu_word op.Sdiv = codes "sdiv"
alu_word op.Or = codes "or"
alu_word op.And = codes "and"
alu_word op.Lsh = codes "lsh"
alu_word op.Rsh = codes "rsh"
alu_word op.Mod = codes "mod"
alu_word op.Smod = codes "smod"
alu_word op.Xor = codes "xor"
alu_word op.Mov = codes "mov"
alu_word op.Arsh = codes "arsh"

abbrev pub order_word : ByteOrder → List ℕ
order_word order.Le = codes "le"
order_word order.Be = codes "be"
order_word order.Swap = codes "swap"

abbrev pub compare_word : Compare → List ℕ
compare_word compare.Eq = codes "jeq"
compare_word compare.Gt = codes "jgt"
compare_word compare.Ge = codes "jge"
compare_word compare.Set = codes "jset"
compare_word compare.Ne = codes "jne"
compare_word compare.Sgt = codes "jsgt"
compare_word compare.Sge = codes "jsge"
compare_word compare.Lt = codes "jlt"
compare_word compare.Le = codes "jle"
compare_word compare.Slt = codes "jslt"
compare_word compare.Sle = codes "jsle"

abbrev pub callee_word : Callee → List ℕ
callee_word callee.Helper = codes "call"
callee_word callee.Local = codes "call_local"
callee_word callee.Btf = codes "call_btf"

abbrev pub atomic_word : AtomicOp → List ℕ
atomic_word (atomic.Simple simple.Add) = codes "add"
atomic_word (atomic.Simple simple.Or) = codes "or"
atomic_word (atomic.Simple simple.And) = codes "and"
atomic_word (atomic.Simple simple.Xor) = codes "xor"
atomic_word (atomic.Fetch simple.Add) = codes "add_fetch"
atomic_word (atomic.Fetch simple.Or) = codes "or_fetch"
atomic_word (atomic.Fetch simple.And) = codes "and_fetch"
atomic_word (atomic.Fetch simple.Xor) = codes "xor_fetch"
atomic_word atomic.Xchg = codes "xchg"
atomic_word atomic.Cmpxchg = codes "cmpxchg"

abbrev pub kind_word : ImmKind → List ℕ
kind_word kind.Number = codes "lddw"
kind_word kind.MapFd = codes "ldmapfd"
kind_word kind.MapFdValue = codes "ldmapfdval"
kind_word kind.Variable = codes "ldvar"
kind_word kind.Code = codes "ldcode"
kind_word kind.Map = codes "ldmap"
kind_word kind.MapValue = codes "ldmapval"

-- the words of a mnemonic; an atomic has two, with a space between them
abbrev pub mnemonic_word : Mnemonic → List ℕ
mnemonic_word (mnemonic.Alu w o) = alu_word o ++ width_word w
mnemonic_word (mnemonic.Neg w) = codes "neg" ++ width_word w
mnemonic_word (mnemonic.Movsx w bits) = (codes "mov" ++ width_word w) ++ (codes "s" ++ movsx_word bits)
mnemonic_word (mnemonic.Endian o bits) = order_word o ++ endian_word bits
mnemonic_word mnemonic.Ja = codes "ja"
mnemonic_word mnemonic.Ja32 = codes "ja32"
mnemonic_word (mnemonic.Jump w c) = compare_word c ++ width_word w
mnemonic_word (mnemonic.Call c) = callee_word c
mnemonic_word mnemonic.Exit = codes "exit"
mnemonic_word (mnemonic.Load s) = codes "ldx" ++ size_word s
mnemonic_word (mnemonic.LoadSx s) = codes "ldxs" ++ size_word s
mnemonic_word (mnemonic.StoreImm s) = codes "st" ++ size_word s
mnemonic_word (mnemonic.Store s) = codes "stx" ++ size_word s
mnemonic_word (mnemonic.Atomic w o) = (codes "atomic" ++ width_word w) ++ codes " " ++ atomic_word o
mnemonic_word (mnemonic.LoadImm k) = kind_word k
