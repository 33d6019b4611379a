-- Worked accesses of maps: elements of two maps, and halves of elements. Each is worked out by hand from RFC 9669 and
-- the profile.
use Rattle.std.specs.Prelude.{◌≡◌, ℕ, ℤ, pos, negsuc, List, [], ◌∷◌, ◌++◌}
use Rattle.bpf_insn_types.specs.declared.insn.{Size.TheVariants.{B, H, W, Dw}, Width.TheVariants.{W32}, Insn.{Insn}}
use Rattle.bpf_insn_types.specs.declared.insn.AtomicOp.{AtomicOp, TheVariants.{Simple, Fetch, Xchg, Cmpxchg}}
use Rattle.bpf_insn_types.specs.declared.insn.{AluOp.TheVariants.{Mov}, ImmKind.TheVariants.{Number}}
use Rattle.bpf_insn_types.specs.declared.insn.Insn.TheVariants.{Exit, Load, LoadSx, StoreImm, Store, Atomic, LoadImm}
use Rattle.bpf_insn_types.specs.Program.{Program}
use Rattle.bpf_insn_types.specs.declared.insn.SimpleOp.TheVariants as simple
use Rattle.array_maps.specs.Accesses.{Access, Action, Read, ReadWrite, Reduce}
use Rattle.array_maps.specs.declared.access.Op.TheVariants as op
use Rattle.bpf_step_model.specs.{State.{main_entry}, Run.{Ended, Stuck, Exit as Exited, run}}
use Rattle.bpf_step_model.specs.ProgramInOrder.{program_in_order}
use Rattle.bpf_step_model.specs.Lines.{mov, alu_reg, map_value, look_up, end, over_two, LinesGive, IsStuck}

-- map 0 of one element and map 1 of two
abbrev pub over_two_maps : List Insn → Program
over_two_maps insns = record { sizes = 1 ∷ 2 ∷ []; insns = insns }

-- from elements 5, 6 and 7 the lines return this and leave those
abbrev pub GivesOfMaps : List Insn → ℕ → List ℕ → Type 0
GivesOfMaps insns ret after =
    program_in_order (over_two_maps insns) 20 0 (5 ∷ 6 ∷ 7 ∷ []) ≡ Ended (record {
      ret = ret;
      loops = [];
      words = after;
    })

-- elements are numbered on over both maps
pub record TwoMapRows : Type 0 where
  pub first : GivesOfMaps (map_value 3 0 0 ∷ Load Dw 0 3 (pos 0) ∷ Exit ∷ []) 5 (5 ∷ 6 ∷ 7 ∷ [])
  pub second : GivesOfMaps (map_value 3 1 8 ∷ Load Dw 0 3 (pos 0) ∷ Exit ∷ []) 7 (5 ∷ 6 ∷ 7 ∷ [])
  pub stored : GivesOfMaps (map_value 3 1 0 ∷ StoreImm Dw 3 (pos 0) (pos 9) ∷ end) 0 (5 ∷ 9 ∷ 7 ∷ [])
  pub looked_up : GivesOfMaps (StoreImm W 10 (negsuc 3) (pos 1) ∷ look_up 1 4 ++ Load Dw 0 0 (pos 0) ∷ Exit ∷ []) 7
      (5 ∷ 6 ∷ 7 ∷ [])
  pub missed : GivesOfMaps (StoreImm W 10 (negsuc 3) (pos 1) ∷ look_up 0 4 ++ Exit ∷ []) 0 (5 ∷ 6 ∷ 7 ∷ [])
  pub past_the_first : program_in_order (over_two_maps (map_value 3 0 8 ∷ Load Dw 0 3 (pos 0) ∷ Exit ∷ [])) 20 0 (5 ∷ 6
      ∷ 7 ∷ []) ≡ Stuck

-- r3 becomes the address of element 1
abbrev pub at_one : List Insn → List Insn
at_one lines = map_value 3 0 8 ∷ lines

-- loads of a half: element 1 has 5 in its lower and 7 in its upper half, or a sign in one of them
pub record HalfLoadRows : Type 0 where
  pub low : LinesGive (at_one (Load W 0 3 (pos 0) ∷ Exit ∷ [])) 0 30064771077 5 0 30064771077
  pub high : LinesGive (at_one (Load W 0 3 (pos 4) ∷ Exit ∷ [])) 0 30064771077 7 0 30064771077
  pub low_sign : LinesGive (at_one (LoadSx W 0 3 (pos 0) ∷ Exit ∷ [])) 0 2147483648 18446744071562067968 0 2147483648
  pub high_sign : LinesGive (at_one (LoadSx W 0 3 (pos 4) ∷ Exit ∷ [])) 0 9223372036854775808 18446744071562067968 0
      9223372036854775808
  pub no_sign : LinesGive (at_one (Load W 0 3 (pos 4) ∷ Exit ∷ [])) 0 9223372036854775808 2147483648 0
      9223372036854775808
  pub two_bytes : IsStuck (at_one (Load H 0 3 (pos 0) ∷ Exit ∷ []))
  pub one_byte : IsStuck (at_one (Load B 0 3 (pos 0) ∷ Exit ∷ []))
  pub between_halves : IsStuck (at_one (Load W 0 3 (pos 2) ∷ Exit ∷ []))
  pub past_the_map : IsStuck (at_one (Load W 0 3 (pos 8) ∷ Exit ∷ []))
  pub before_the_map : IsStuck (map_value 3 0 0 ∷ Load W 0 3 (negsuc 3) ∷ Exit ∷ [])

-- stores to a half of element 1, which has 5 and 7 in its halves: the other half stays
pub record HalfStoreRows : Type 0 where
  pub low : LinesGive (at_one (LoadImm Number 1 (pos 9) (pos 1) ∷ Store W 3 1 (pos 0) ∷ end)) 0 30064771077 0 0
      30064771081
  pub high : LinesGive (at_one (StoreImm W 3 (pos 4) (negsuc 0) ∷ end)) 0 30064771077 0 0 18446744069414584325
  pub two_bytes : IsStuck (at_one (StoreImm H 3 (pos 0) (pos 1) ∷ end))

-- an atomic operation of 4 bytes at element 1 with 2 ^ 32 + 6 in r1, of which 6 counts, and 2 ^ 32 + 7 in r0; what was
-- loaded into r1 is returned
abbrev pub half_atomic : AtomicOp → ℤ → List Insn
half_atomic change offset =
    at_one (LoadImm Number 1 (pos 6) (pos 1) ∷ LoadImm Number 0 (pos 7) (pos 1) ∷ Atomic W32 change 3 1 offset
    ∷ alu_reg Mov 0 1 ∷ Exit ∷ [])

-- they change that half alone: an addition doesn't carry into the other half
pub record HalfAtomicRows : Type 0 where
  pub low_add_wraps : LinesGive (half_atomic (Simple simple.Add) (pos 0)) 0 34359738367 4294967302 0 30064771077
  pub high_add_wraps : LinesGive (half_atomic (Simple simple.Add) (pos 4)) 0 18446744069414584325 4294967302 0
      21474836485
  pub low_or : LinesGive (half_atomic (Simple simple.Or) (pos 0)) 0 30064771077 4294967302 0 30064771079
  pub high_and : LinesGive (half_atomic (Simple simple.And) (pos 4)) 0 30064771077 4294967302 0 25769803781
  pub low_xor : LinesGive (half_atomic (Simple simple.Xor) (pos 0)) 0 30064771077 4294967302 0 30064771075
  pub low_fetch : LinesGive (half_atomic (Fetch simple.Add) (pos 0)) 0 30064771077 5 0 30064771083
  pub high_fetch_wraps : LinesGive (half_atomic (Fetch simple.Add) (pos 4)) 0 18446744069414584325 4294967295 0
      21474836485
  pub high_exchange : LinesGive (half_atomic Xchg (pos 4)) 0 30064771077 7 0 25769803781
  pub high_compare_equal : LinesGive (half_atomic Cmpxchg (pos 4)) 0 30064771077 4294967302 0 25769803781
  pub low_compare_unequal : LinesGive (half_atomic Cmpxchg (pos 0)) 0 30064771077 4294967302 0 30064771077
  pub compare_tells_r0 : LinesGive (at_one (mov 0 9 ∷ Atomic W32 Cmpxchg 3 1 (pos 4) ∷ Exit ∷ [])) 0 30064771077 7 0
      30064771077
  pub between_halves : IsStuck (half_atomic (Simple simple.Add) (pos 2))

-- accesses of halves of element 1, one after another
abbrev pub half_accesses : List Insn
half_accesses =
    at_one (mov 1 2 ∷ StoreImm W 3 (pos 0) (pos 9) ∷ Load W 4 3 (pos 4) ∷ Atomic W32 (Simple simple.Or) 3 1 (pos 4)
    ∷ Atomic W32 (Simple simple.And) 3 1 (pos 0) ∷ Atomic W32 (Simple simple.Xor) 3 1 (pos 0)
    ∷ Atomic W32 (Simple simple.Add) 3 1 (pos 4)
    ∷ Atomic W32 (Fetch simple.Add) 3 1 (pos 0) ∷ end)

abbrev pub at_element_one : Action → Access
at_element_one action = record { element = 1; action = action }

-- what they do: a store reads and writes the whole element; an operation that says nothing reduces the whole element,
-- with an operand that leaves the other half
pub record HalfAccessRows : Type 0 where
  pub accesses : run (over_two half_accesses) 20 (main_entry 0) (0 ∷ 30064771077 ∷ [])
      ≡ Ended (record {
        turn = Exited 0;
        steps = 11;
        accesses = at_element_one (ReadWrite 30064771077 30064771081) ∷ at_element_one (Read 30064771081)
            ∷ at_element_one (Reduce op.Or 8589934592)
            ∷ at_element_one (Reduce op.And 18446744069414584322) ∷ at_element_one (Reduce op.Xor 2)
            ∷ at_element_one (Reduce op.AddH 8589934592)
            ∷ at_element_one (ReadWrite 38654705666 38654705668) ∷ [];
        words = 0 ∷ 38654705668 ∷ [];
      })

-- all of them
pub record MapRows : Type 0 where
  pub two_maps : TwoMapRows
  pub loads : HalfLoadRows
  pub stores : HalfStoreRows
  pub atomics : HalfAtomicRows
  pub accesses : HalfAccessRows
