-- Worked values of the operators, worked out by hand from RFC 9669, sections 4.1 to 4.3.
use Rattle.std.specs.Prelude.{◌≡◌, ◌+◌, ◌-◌, ◌^◌, true, false, negsuc}
use Rattle.bpf_insn_types.specs.declared.insn.{Width.TheVariants.{W32, W64}, AluOp.TheVariants.{Xor, Mov, Arsh}}
use Rattle.bpf_insn_types.specs.declared.insn.AluOp.TheVariants.{Add, Sub, Mul, Div, Sdiv, Or, And, Lsh, Rsh, Mod, Smod}
use Rattle.bpf_insn_types.specs.declared.insn.Compare.TheVariants.{Eq, Gt, Ge, Set, Ne, Sgt, Sge, Lt, Le, Slt, Sle}
use Rattle.bpf_insn_types.specs.declared.insn.ByteOrder.TheVariants.{Le as To_le, Be as To_be, Swap}
use Rattle.bpf_insn_types.specs.declared.insn.EndianBits.TheVariants.{B16, B32, B64}
use Rattle.bpf_insn_types.specs.declared.insn.MovsxBits.TheVariants.{B8, B16 as Low16, B32 as Low32}
use Rattle.bpf_insn_types.specs.Words.{alu, negated, moved_signed, in_order, holds, word_of}

-- operators at 64 bits; the word of -7 is 2 ^ 64 - 7
pub record WideRows : Type 0 where
  pub add_wraps : alu W64 Add (2 ^ 64 - 1) 2 ≡ 1
  pub sub_wraps : alu W64 Sub 1 2 ≡ 2 ^ 64 - 1
  pub mul_wraps : alu W64 Mul (2 ^ 63) 2 ≡ 0
  pub div_by_zero : alu W64 Div 7 0 ≡ 0
  pub mod_by_zero : alu W64 Mod 7 0 ≡ 7
  pub sdiv_truncates : alu W64 Sdiv (2 ^ 64 - 7) 2 ≡ 2 ^ 64 - 3
  pub sdiv_by_zero : alu W64 Sdiv (2 ^ 64 - 7) 0 ≡ 0
  pub sdiv_least : alu W64 Sdiv (2 ^ 63) (2 ^ 64 - 1) ≡ 2 ^ 63
  pub smod_sign : alu W64 Smod (2 ^ 64 - 7) 2 ≡ 2 ^ 64 - 1
  pub smod_by_zero : alu W64 Smod (2 ^ 64 - 7) 0 ≡ 2 ^ 64 - 7
  pub smod_least : alu W64 Smod (2 ^ 63) (2 ^ 64 - 1) ≡ 0
  pub or_bits : alu W64 Or 12 10 ≡ 14
  pub and_bits : alu W64 And 12 10 ≡ 8
  pub xor_bits : alu W64 Xor 12 10 ≡ 6
  pub lsh_masked : alu W64 Lsh 1 65 ≡ 2
  pub rsh_masked : alu W64 Rsh 8 65 ≡ 4
  pub arsh_sign : alu W64 Arsh (2 ^ 63) 63 ≡ 2 ^ 64 - 1
  pub arsh_positive : alu W64 Arsh 9 1 ≡ 4
  pub mov_takes : alu W64 Mov 1 2 ≡ 2
  pub neg_wraps : negated W64 7 ≡ 2 ^ 64 - 7
  pub imm_extended : word_of (negsuc 6) ≡ 2 ^ 64 - 7

-- operators at 32 bits: the lower halves, and a cleared upper half
pub record NarrowRows : Type 0 where
  pub add_clears : alu W32 Add (2 ^ 32 + 5) 1 ≡ 6
  pub sub_wraps : alu W32 Sub 0 1 ≡ 2 ^ 32 - 1
  pub mul_wraps : alu W32 Mul (2 ^ 31) 2 ≡ 0
  pub div_by_zero : alu W32 Div 7 (2 ^ 32) ≡ 0
  pub mod_by_zero : alu W32 Mod (2 ^ 64 - 1) 0 ≡ 4294967295
  pub sdiv_least : alu W32 Sdiv (2 ^ 31) (2 ^ 32 - 1) ≡ 2 ^ 31
  pub smod_sign : alu W32 Smod (2 ^ 32 - 7) 2 ≡ 2 ^ 32 - 1
  pub or_clears : alu W32 Or (2 ^ 63) 3 ≡ 3
  pub and_clears : alu W32 And (2 ^ 64 - 1) (2 ^ 64 - 1) ≡ 2 ^ 32 - 1
  pub xor_clears : alu W32 Xor (2 ^ 40) 1 ≡ 1
  pub lsh_masked : alu W32 Lsh 1 33 ≡ 2
  pub rsh_lower : alu W32 Rsh (2 ^ 32 + 8) 1 ≡ 4
  pub arsh_sign : alu W32 Arsh (2 ^ 31) 31 ≡ 2 ^ 32 - 1
  pub mov_clears : alu W32 Mov 0 (2 ^ 64 - 7) ≡ 2 ^ 32 - 7
  pub neg_clears : negated W32 1 ≡ 2 ^ 32 - 1

-- sign-extending moves and byte orders
pub record ByteRows : Type 0 where
  pub sign_of_8 : moved_signed W64 B8 (256 + 128) ≡ 2 ^ 64 - 128
  pub sign_of_16 : moved_signed W32 Low16 (2 ^ 16 - 1) ≡ 2 ^ 32 - 1
  pub sign_of_32 : moved_signed W64 Low32 (2 ^ 31) ≡ 2 ^ 64 - 2 ^ 31
  pub no_sign : moved_signed W64 B8 (256 + 127) ≡ 127
  pub le_keeps : in_order To_le B16 74565 ≡ 9029
  pub be_16 : in_order To_be B16 74565 ≡ 17699
  pub be_32 : in_order To_be B32 1 ≡ 16777216
  pub swap_64 : in_order Swap B64 1 ≡ 2 ^ 56

-- comparisons: signed and unsigned, and of lower halves
pub record CompareRows : Type 0 where
  pub unsigned : holds W64 Gt (2 ^ 64 - 1) 0 ≡ true
  pub signed : holds W64 Sgt (2 ^ 64 - 1) 0 ≡ false
  pub signed_less : holds W64 Slt (2 ^ 63) 0 ≡ true
  pub lower_halves : holds W32 Eq (2 ^ 32 + 5) 5 ≡ true
  pub whole : holds W64 Eq (2 ^ 32 + 5) 5 ≡ false
  pub lower_sign : holds W32 Sle (2 ^ 31) 0 ≡ true
  pub common_bits : holds W64 Set 12 10 ≡ true
  pub no_common_bits : holds W64 Set 12 3 ≡ false
  pub not_equal : holds W32 Ne (2 ^ 32) 0 ≡ false
  pub less : holds W64 Lt 4 5 ≡ true
  pub not_less : holds W64 Lt 5 5 ≡ false
  pub not_greater : holds W64 Gt 5 5 ≡ false
  pub less_or_equal : holds W64 Le 5 4 ≡ false
  pub greater_or_equal : holds W64 Ge 5 5 ≡ true
  pub at_least : holds W64 Sge 0 (2 ^ 64 - 1) ≡ true

-- all of them
pub record WordRows : Type 0 where
  pub wide : WideRows
  pub half : NarrowRows
  pub bytes : ByteRows
  pub compares : CompareRows
