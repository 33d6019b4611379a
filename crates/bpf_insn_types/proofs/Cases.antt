-- Properties of all values of an enum, each with the property of one value after the other.
use Rattle.bpf_insn_types.specs.declared.insn.{Width.{Width}, Size.{Size}, ByteOrder.{ByteOrder}, MovsxBits.{MovsxBits}}
use Rattle.bpf_insn_types.specs.declared.insn.{EndianBits.{EndianBits}, AluOp.{AluOp}, Compare.{Compare}}
use Rattle.bpf_insn_types.specs.declared.insn.{Callee.{Callee}, ImmKind.{ImmKind}, AtomicOp.{AtomicOp}}
use Rattle.bpf_insn_types.specs.declared.insn.Width.TheVariants as width
use Rattle.bpf_insn_types.specs.declared.insn.Size.TheVariants as size
use Rattle.bpf_insn_types.specs.declared.insn.ByteOrder.TheVariants as order
use Rattle.bpf_insn_types.specs.declared.insn.EndianBits.TheVariants as endian
use Rattle.bpf_insn_types.specs.declared.insn.MovsxBits.TheVariants as movsx
use Rattle.bpf_insn_types.specs.declared.insn.AluOp.TheVariants as op
use Rattle.bpf_insn_types.specs.declared.insn.Compare.TheVariants as compare
use Rattle.bpf_insn_types.specs.declared.insn.Callee.TheVariants as callee
use Rattle.bpf_insn_types.specs.declared.insn.ImmKind.TheVariants as kind
use Rattle.bpf_insn_types.specs.declared.insn.SimpleOp.TheVariants as simple
use Rattle.bpf_insn_types.specs.declared.insn.AtomicOp.TheVariants as atomic

abbrev pub EachWidth : (Width → Type 0) → Type 0
EachWidth P = P width.W32 × P width.W64

pub each_width : (P : Width → Type 0) → EachWidth P → (w : Width) → P w
each_width P h w = elim w as (λ w. P w) [ width.W32 ↦ h.0 | width.W64 ↦ h.1 ]

abbrev pub EachSize : (Size → Type 0) → Type 0
EachSize P = P size.B × P size.H × P size.W × P size.Dw

pub each_size : (P : Size → Type 0) → EachSize P → (s : Size) → P s
each_size P h s = elim s as (λ s. P s) [ size.B ↦ h.0 | size.H ↦ h.1 | size.W ↦ h.2 | size.Dw ↦ h.3 ]

abbrev pub EachOrder : (ByteOrder → Type 0) → Type 0
EachOrder P = P order.Le × P order.Be × P order.Swap

pub each_order : (P : ByteOrder → Type 0) → EachOrder P → (o : ByteOrder) → P o
each_order P h o = elim o as (λ o. P o) [ order.Le ↦ h.0 | order.Be ↦ h.1 | order.Swap ↦ h.2 ]

abbrev pub EachEndianBits : (EndianBits → Type 0) → Type 0
EachEndianBits P = P endian.B16 × P endian.B32 × P endian.B64

pub each_endian_bits : (P : EndianBits → Type 0) → EachEndianBits P → (b : EndianBits) → P b
each_endian_bits P h b = elim b as (λ b. P b) [ endian.B16 ↦ h.0 | endian.B32 ↦ h.1 | endian.B64 ↦ h.2 ]

abbrev pub EachMovsxBits : (MovsxBits → Type 0) → Type 0
EachMovsxBits P = P movsx.B8 × P movsx.B16 × P movsx.B32

pub each_movsx_bits : (P : MovsxBits → Type 0) → EachMovsxBits P → (b : MovsxBits) → P b
each_movsx_bits P h b = elim b as (λ b. P b) [ movsx.B8 ↦ h.0 | movsx.B16 ↦ h.1 | movsx.B32 ↦ h.2 ]

abbrev pub EachOp : (AluOp → Type 0) → Type 0
EachOp P = P op.Add × P op.Sub × P op.Mul × P op.Div × P op.Sdiv × P op.Or × P op.And × P op.Lsh × P op.Rsh × P op.Mod
    × P op.Smod × P op.Xor × P op.Mov × P op.Arsh

pub each_op : (P : AluOp → Type 0) → EachOp P → (o : AluOp) → P o
each_op P h o = elim o as (λ o. P o) [
  | op.Add ↦ h.0
  | op.Sub ↦ h.1
  | op.Mul ↦ h.2
  | op.Div ↦ h.3
  | op.Sdiv ↦ h.4
  | op.Or
      ↦ h.5
  | op.And ↦ h.6
  | op.Lsh ↦ h.7
  | op.Rsh ↦ h.8
  | op.Mod ↦ h.9
  | op.Smod ↦ h.10
  | op.Xor ↦ h.11
  | op.Mov
      ↦ h.12
  | op.Arsh ↦ h.13
]

abbrev pub EachCompare : (Compare → Type 0) → Type 0
EachCompare P = P compare.Eq × P compare.Gt × P compare.Ge × P compare.Set × P compare.Ne × P compare.Sgt
    × P compare.Sge × P compare.Lt × P compare.Le × P compare.Slt × P compare.Sle

pub each_compare : (P : Compare → Type 0) → EachCompare P → (c : Compare) → P c
each_compare P h c = elim c as (λ c. P c) [
  | compare.Eq ↦ h.0
  | compare.Gt ↦ h.1
  | compare.Ge ↦ h.2
  | compare.Set
      ↦ h.3
  | compare.Ne ↦ h.4
  | compare.Sgt ↦ h.5
  | compare.Sge ↦ h.6
  | compare.Lt ↦ h.7
  | compare.Le ↦ h.8
  | compare.Slt
      ↦ h.9
  | compare.Sle ↦ h.10
]

abbrev pub EachCallee : (Callee → Type 0) → Type 0
EachCallee P = P callee.Helper × P callee.Local × P callee.Btf

pub each_callee : (P : Callee → Type 0) → EachCallee P → (c : Callee) → P c
each_callee P h c = elim c as (λ c. P c) [ callee.Helper ↦ h.0 | callee.Local ↦ h.1 | callee.Btf ↦ h.2 ]

abbrev pub EachKind : (ImmKind → Type 0) → Type 0
EachKind P = P kind.Number × P kind.MapFd × P kind.MapFdValue × P kind.Variable × P kind.Code × P kind.Map
    × P kind.MapValue

pub each_kind : (P : ImmKind → Type 0) → EachKind P → (k : ImmKind) → P k
each_kind P h k = elim k as (λ k. P k) [
  | kind.Number ↦ h.0
  | kind.MapFd ↦ h.1
  | kind.MapFdValue ↦ h.2
  | kind.Variable
      ↦ h.3
  | kind.Code ↦ h.4
  | kind.Map ↦ h.5
  | kind.MapValue ↦ h.6
]

abbrev pub EachAtomic : (AtomicOp → Type 0) → Type 0
EachAtomic P =
    P (atomic.Simple simple.Add) × P (atomic.Simple simple.Or) × P (atomic.Simple simple.And)
    × P (atomic.Simple simple.Xor) × P (atomic.Fetch simple.Add) × P (atomic.Fetch simple.Or)
    × P (atomic.Fetch simple.And) × P (atomic.Fetch simple.Xor) × P atomic.Xchg × P atomic.Cmpxchg

pub each_atomic : (P : AtomicOp → Type 0) → EachAtomic P → (o : AtomicOp) → P o
each_atomic P h (atomic.Simple simple.Add) = h.0
each_atomic P h (atomic.Simple simple.Or) = h.1
each_atomic P h (atomic.Simple simple.And) = h.2
each_atomic P h (atomic.Simple simple.Xor) = h.3
each_atomic P h (atomic.Fetch simple.Add) = h.4
each_atomic P h (atomic.Fetch simple.Or) = h.5
each_atomic P h (atomic.Fetch simple.And) = h.6
each_atomic P h (atomic.Fetch simple.Xor) = h.7
each_atomic P h atomic.Xchg = h.8
each_atomic P h atomic.Cmpxchg = h.9
