-- Worked programs without loops: what they return in order. Each is worked out by hand from RFC 9669.
use Rattle.std.specs.Prelude.{◌≡◌, ℕ, pos, negsuc, List, [], ◌∷◌}
use Rattle.bpf_insn_types.specs.declared.insn.{Size.TheVariants.{W, Dw}, Width.TheVariants.{W32, W64}, Insn.{Insn}}
use Rattle.bpf_insn_types.specs.declared.insn.AluOp.TheVariants.{Add, Div, Sdiv, Mod, Smod, Lsh, Mov, Arsh}
use Rattle.bpf_insn_types.specs.declared.insn.{Compare.TheVariants.{Eq, Gt}, Operand.TheVariants.{Imm, Reg}}
use Rattle.bpf_insn_types.specs.declared.insn.{MovsxBits.TheVariants.{B8, B16}, ByteOrder.TheVariants.{Le, Be, Swap}}
use Rattle.bpf_insn_types.specs.{declared.insn.EndianBits.TheVariants.{B16 as E16, B64 as E64}, Program.{Program}}
use Rattle.bpf_insn_types.specs.declared.insn.{Callee.TheVariants.{Helper}, ImmKind.TheVariants.{Number, Map}}
use Rattle.bpf_insn_types.specs.declared.insn.Insn.TheVariants.{Alu, Neg, Movsx, Endian, Ja32, Call, Exit, Jump, Load}
use Rattle.bpf_insn_types.specs.declared.insn.Insn.TheVariants.{StoreImm, LoadImm}
use Rattle.bpf_step_model.specs.{Run.{Ended, Stuck}, ProgramInOrder.{program_in_order}}
use Rattle.bpf_step_model.specs.Lines.{mov, alu_imm, alu_reg, over_two, Returns}

-- the least signed number in r0, and a line after it
abbrev pub least_and : Insn → List Insn
least_and line = LoadImm Number 0 (pos 0) (negsuc 2147483647) ∷ line ∷ Exit ∷ []

-- -7 in r0, and a line after it
abbrev pub minus_seven_and : Insn → List Insn
minus_seven_and line = Alu W64 Mov 0 (Imm (negsuc 6)) ∷ line ∷ Exit ∷ []

-- arithmetic at its corners
pub record ArithmeticRows : Type 0 where
  pub div_by_zero : Returns (mov 0 7 ∷ alu_imm Div 0 0 ∷ Exit ∷ []) 0
  pub mod_by_zero : Returns (mov 0 7 ∷ alu_imm Mod 0 0 ∷ Exit ∷ []) 7
  pub mod32_by_zero : Returns (Alu W64 Mov 0 (Imm (negsuc 0)) ∷ Alu W32 Mod 0 (Imm (pos 0)) ∷ Exit ∷ []) 4294967295
  pub sdiv_least : Returns (least_and (Alu W64 Sdiv 0 (Imm (negsuc 0)))) 9223372036854775808
  pub smod_least : Returns (least_and (Alu W64 Smod 0 (Imm (negsuc 0)))) 0
  pub arsh_least : Returns (least_and (alu_imm Arsh 0 63)) 18446744073709551615
  pub sdiv_truncates : Returns (minus_seven_and (alu_imm Sdiv 0 2)) 18446744073709551613
  pub smod_sign : Returns (minus_seven_and (alu_imm Smod 0 2)) 18446744073709551615
  pub lsh_masked : Returns (mov 0 1 ∷ alu_imm Lsh 0 65 ∷ Exit ∷ []) 2
  pub argument : program_in_order (over_two (alu_reg Mov 0 1 ∷ Exit ∷ [])) 20 5 (0 ∷ 0 ∷ [])
      ≡ Ended (record { ret = 5; loops = []; words = 0 ∷ 0 ∷ [] })

-- negation, sign-extending moves, byte orders and a jump by 32 bits
pub record OtherRows : Type 0 where
  pub negated : Returns (mov 0 7 ∷ Neg W64 0 ∷ Exit ∷ []) 18446744073709551609
  pub negated_half : Returns (mov 0 7 ∷ Neg W32 0 ∷ Exit ∷ []) 4294967289
  pub signed_byte : Returns (mov 1 384 ∷ Movsx W64 B8 0 1 ∷ Exit ∷ []) 18446744073709551488
  pub signed_in_half : Returns (mov 1 65535 ∷ Movsx W32 B16 0 1 ∷ Exit ∷ []) 4294967295
  pub big_endian : Returns (mov 0 258 ∷ Endian Be E16 0 ∷ Exit ∷ []) 513
  pub little_endian : Returns (mov 0 74565 ∷ Endian Le E16 0 ∷ Exit ∷ []) 9029
  pub swapped : Returns (mov 0 1 ∷ Endian Swap E64 0 ∷ Exit ∷ []) 72057594037927936
  pub long_jump : Returns (mov 0 1 ∷ Ja32 (pos 1) ∷ mov 0 2 ∷ Exit ∷ []) 1
  pub compared_registers : Returns (mov 2 9 ∷ mov 3 5 ∷ mov 0 1 ∷ Jump W64 Gt 2 (Reg 3) (pos 1) ∷ mov 0 2 ∷ Exit ∷ []) 1
  pub compared_halves : Returns (LoadImm Number 2 (pos 5) (pos 1) ∷ mov 0 1 ∷ Jump W32 Eq 2 (Imm (pos 5)) (pos 1)
      ∷ mov 0 2 ∷ Exit ∷ []) 1

-- four elements 10, 20, 30 and 40, looked up by a key on the frame
abbrev pub lookup_of : ℕ → Program
lookup_of key = record {
  sizes = 4 ∷ [];
  insns = StoreImm W 10 (negsuc 3) (pos key) ∷ LoadImm Map 1 (pos 0) (pos 0) ∷ alu_reg Mov 2 10
      ∷ Alu W64 Add 2 (Imm (negsuc 3))
      ∷ Call Helper (pos 1) ∷ Jump W64 Eq 0 (Imm (pos 0)) (pos 1) ∷ Load Dw 0 0 (pos 0) ∷ Exit ∷ [];
}

abbrev pub four : List ℕ
four = 10 ∷ 20 ∷ 30 ∷ 40 ∷ []

-- a lookup that hits, one that misses, and reads of what is unwritten
pub record MemoryRows : Type 0 where
  pub hit : program_in_order (lookup_of 3) 20 0 four ≡ Ended (record { ret = 40; loops = []; words = four })
  pub miss : program_in_order (lookup_of 4) 20 0 four ≡ Ended (record { ret = 0; loops = []; words = four })
  pub unwritten_register : program_in_order (record { sizes = 1 ∷ []; insns = alu_reg Mov 0 2 ∷ Exit ∷ [] }) 10 0
      (0 ∷ []) ≡ Stuck
  pub unwritten_bytes : program_in_order (record { sizes = 1 ∷ []; insns = Load Dw 0 10 (negsuc 7) ∷ Exit ∷ [] }) 10 0
      (0 ∷ []) ≡ Stuck

-- all of them
pub record ProgramRows : Type 0 where
  pub arithmetic : ArithmeticRows
  pub other : OtherRows
  pub memory : MemoryRows
