-- A property of all mnemonics, each with the property of one after the other.
use Rattle.bpf_insn_types.proofs.Cases.{EachWidth, each_width, EachSize, each_size, EachOrder, each_order}
use Rattle.bpf_insn_types.proofs.Cases.{EachEndianBits, each_endian_bits, EachMovsxBits, each_movsx_bits, EachOp}
use Rattle.bpf_insn_types.proofs.Cases.{each_op, EachCompare, each_compare, EachCallee, each_callee, EachKind}
use Rattle.bpf_insn_types.proofs.Cases.{each_kind, EachAtomic, each_atomic}
use Rattle.bpf_text_lex.specs.declared.mnemonic.Mnemonic.{Mnemonic}
use Rattle.bpf_text_lex.specs.declared.mnemonic.Mnemonic.TheVariants as mnemonic

pub record EachMnemonic (P : Mnemonic → Type 0) : Type 0 where
  pub alu : EachWidth (λ w. EachOp (λ o. P (mnemonic.Alu w o)))
  pub neg : EachWidth (λ w. P (mnemonic.Neg w))
  pub movsx : EachWidth (λ w. EachMovsxBits (λ b. P (mnemonic.Movsx w b)))
  pub endian : EachOrder (λ o. EachEndianBits (λ b. P (mnemonic.Endian o b)))
  pub ja : P mnemonic.Ja
  pub ja32 : P mnemonic.Ja32
  pub jump : EachWidth (λ w. EachCompare (λ c. P (mnemonic.Jump w c)))
  pub call : EachCallee (λ c. P (mnemonic.Call c))
  pub exit : P mnemonic.Exit
  pub load : EachSize (λ s. P (mnemonic.Load s))
  pub load_sx : EachSize (λ s. P (mnemonic.LoadSx s))
  pub store_imm : EachSize (λ s. P (mnemonic.StoreImm s))
  pub store : EachSize (λ s. P (mnemonic.Store s))
  pub atomic : EachWidth (λ w. EachAtomic (λ o. P (mnemonic.Atomic w o)))
  pub load_imm : EachKind (λ k. P (mnemonic.LoadImm k))

pub each_mnemonic : (P : Mnemonic → Type 0) → EachMnemonic P → (m : Mnemonic) → P m
each_mnemonic P h (mnemonic.Alu w o) =
    each_op (λ o. P (mnemonic.Alu w o)) (each_width (λ w. EachOp (λ o. P (mnemonic.Alu w o))) h.alu w) o
each_mnemonic P h (mnemonic.Neg w) = each_width (λ w. P (mnemonic.Neg w)) h.neg w
each_mnemonic P h (mnemonic.Movsx w b) =
    each_movsx_bits (λ b. P (mnemonic.Movsx w b)) (each_width (λ w. EachMovsxBits (λ b. P (mnemonic.Movsx w b))) h.movsx
    w) b
each_mnemonic P h (mnemonic.Endian o b) =
    each_endian_bits (λ b. P (mnemonic.Endian o b)) (each_order (λ o. EachEndianBits (λ b. P (mnemonic.Endian o b)))
    h.endian o) b
each_mnemonic P h mnemonic.Ja = h.ja
each_mnemonic P h mnemonic.Ja32 = h.ja32
each_mnemonic P h (mnemonic.Jump w c) =
    each_compare (λ c. P (mnemonic.Jump w c)) (each_width (λ w. EachCompare (λ c. P (mnemonic.Jump w c))) h.jump w) c
each_mnemonic P h (mnemonic.Call c) = each_callee (λ c. P (mnemonic.Call c)) h.call c
each_mnemonic P h mnemonic.Exit = h.exit
each_mnemonic P h (mnemonic.Load s) = each_size (λ s. P (mnemonic.Load s)) h.load s
each_mnemonic P h (mnemonic.LoadSx s) = each_size (λ s. P (mnemonic.LoadSx s)) h.load_sx s
each_mnemonic P h (mnemonic.StoreImm s) = each_size (λ s. P (mnemonic.StoreImm s)) h.store_imm s
each_mnemonic P h (mnemonic.Store s) = each_size (λ s. P (mnemonic.Store s)) h.store s
each_mnemonic P h (mnemonic.Atomic w o) =
    each_atomic (λ o. P (mnemonic.Atomic w o)) (each_width (λ w. EachAtomic (λ o. P (mnemonic.Atomic w o))) h.atomic w)
    o
each_mnemonic P h (mnemonic.LoadImm k) = each_kind (λ k. P (mnemonic.LoadImm k)) h.load_imm k
