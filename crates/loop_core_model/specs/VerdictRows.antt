-- Worked verdicts: what is reported of loops that may run in parallel. Each is worked out by hand.
use Rattle.std.specs.Prelude.{◌≡◌, ℕ, pos, negsuc, List, [], ◌∷◌, ◌++◌, replicate}
use Rattle.bpf_insn_types.specs.declared.insn.{Size.TheVariants.{W, Dw}, Width.TheVariants.{W32, W64}, Insn.{Insn}}
use Rattle.bpf_insn_types.specs.declared.insn.{SimpleOp.TheVariants.{Add as AddOp, Or as OrOp}, AluOp.TheVariants.{Add}}
use Rattle.bpf_insn_types.specs.declared.insn.AtomicOp.TheVariants.{Simple}
use Rattle.bpf_insn_types.specs.declared.insn.Insn.TheVariants.{Exit, Load, Store, StoreImm, Atomic}
use Rattle.bpf_step_model.specs.{Run.{Ended}, Lines.{mov, alu_imm, map_value, end, loop_with}}
use Rattle.bpf_step_model.specs.LoopRows.{looping, skip_unless, add_index, increment, shift_right, shift_left}
use Rattle.bpf_step_model.specs.LoopRows.{last_writer, mixed_operators, break_at_five, break_that_never_comes}
use Rattle.bpf_step_model.specs.LoopRows.{and_operands, add_fetched, two_loops}
use Rattle.loop_core_model.specs.declared.{loop_test.Test.{Test, TheVariants.{Lrpd, Flow}}, verdict.Verdict.{Verdict}}
use Rattle.loop_core_model.specs.{declared.verdict.Verdict.TheVariants.{Parallel, Conflict, Refused}, Report.{report}}

-- each iteration reads the element, and iteration 3 writes it
abbrev pub read_by_all : List Insn
read_by_all = map_value 3 0 0 ∷ Load Dw 4 3 (pos 0) ∷ mov 0 0 ∷ skip_unless 1 3 1 ∷ StoreImm Dw 3 (pos 0) (pos 9) ∷ Exit
    ∷ []

-- each iteration reads element 64, adds 1 and writes it
abbrev pub increment_last : List Insn
increment_last = map_value 3 0 512 ∷ Load Dw 4 3 (pos 0) ∷ alu_imm Add 4 1 ∷ Store Dw 3 4 (pos 0) ∷ end

-- 4-byte operations: each iteration adds 1 to the lower half and its index to the upper
abbrev pub add_halves : List Insn
add_halves = map_value 3 0 0 ∷ mov 4 1 ∷ Atomic W32 (Simple AddOp) 3 4 (pos 0) ∷ Atomic W32 (Simple AddOp) 3 1 (pos 4)
    ∷ end

-- adds 1 to the lower half, and then to the whole word
abbrev pub add_half_and_whole : List Insn
add_half_and_whole = map_value 3 0 0 ∷ mov 4 1 ∷ Atomic W32 (Simple AddOp) 3 4 (pos 0) ∷ Atomic W64 (Simple AddOp) 3 4
    (pos 0) ∷ end

-- ors the index into the upper half, and into the whole word
abbrev pub or_half_and_whole : List Insn
or_half_and_whole = map_value 3 0 0 ∷ Atomic W32 (Simple OrOp) 3 1 (pos 4) ∷ Atomic W64 (Simple OrOp) 3 1 (pos 0) ∷ end

-- stores the index in the lower half
abbrev pub store_half : List Insn
store_half = map_value 3 0 0 ∷ Store W 3 1 (pos 0) ∷ end

-- by a test the loop of n iterations is reported with this answer and verdict, and turns the words before into those
-- after
abbrev pub Reports : Test → List ℕ → ℕ → List Insn → (before : List ℕ) (answer : ℕ) → Verdict → (after : List ℕ)
    → Type 0
Reports test sizes n callback before answer told after =
    report test (looping sizes n callback) 20 0 before
    ≡ Ended (record {
      ret = answer;
      loops = record { slot = 5; answer = pos answer; verdict = told } ∷ [];
      words = after;
    })

-- loops that pass by a test
pub record ParallelRows (test : Test) : Type 0 where
  pub none : Reports test (1 ∷ []) 0 add_index (5 ∷ []) 0 Parallel (5 ∷ [])
  pub one_operator : Reports test (1 ∷ []) 8 add_index (18446744073709551615 ∷ []) 8 Parallel (27 ∷ [])
  pub each_its_own : Reports test (65 ∷ []) 65 increment (replicate 65 0) 65 Parallel (replicate 65 1)
  pub written_first : Reports test (1 ∷ []) 5 last_writer (3 ∷ []) 5 Parallel (4 ∷ [])
  pub least_break : Reports test (16 ∷ []) 16 break_at_five (replicate 16 0) 6 Parallel (replicate 6 1
      ++ replicate 10 0)
  pub ands : Reports test (1 ∷ []) 3 and_operands (15 ∷ []) 3 Parallel (12 ∷ [])

-- loops that conflict by a test, with how many elements do and the least of them
pub record ConflictVerdictRows (test : Test) : Type 0 where
  pub carried_right : Reports test (5 ∷ []) 4 shift_right (9 ∷ 0 ∷ 0 ∷ 0 ∷ 0 ∷ []) 4 (Conflict 3 1) (9 ∷ 9 ∷ 9 ∷ 9 ∷ 9
      ∷ [])
  pub two_operators : Reports test (1 ∷ []) 4 mixed_operators (1 ∷ []) 4 (Conflict 1 0) (27 ∷ [])
  pub no_break_in_order : Reports test (1 ∷ []) 8 break_that_never_comes (0 ∷ []) 8 (Conflict 1 0) (1 ∷ [])
  pub fetched : Reports test (1 ∷ []) 3 add_fetched (0 ∷ []) 3 (Conflict 1 0) (3 ∷ [])
  pub last_element : Reports test (65 ∷ []) 2 increment_last (replicate 65 0) 2 (Conflict 1 64) (replicate 64 0 ++ 2
      ∷ [])

-- loops of which readers alone stand before writers: they pass by the flow test, and conflict by the other
pub record AheadRows (test : Test) (carried one : Verdict) : Type 0 where
  pub carried_left : Reports test (5 ∷ []) 4 shift_left (1 ∷ 2 ∷ 3 ∷ 4 ∷ 5 ∷ []) 4 carried (2 ∷ 3 ∷ 4 ∷ 5 ∷ 5 ∷ [])
  pub written_last : Reports test (1 ∷ []) 4 read_by_all (5 ∷ []) 4 one (9 ∷ [])

-- loops over halves of words: halves are added apart, by an operator of their own, and a half is stored by a read and a
-- write of its word
pub record HalfElementRows (test : Test) : Type 0 where
  pub apart : Reports test (1 ∷ []) 4 add_halves (4294967295 ∷ []) 4 Parallel (25769803779 ∷ [])
  pub two_adds : Reports test (1 ∷ []) 2 add_half_and_whole (0 ∷ []) 2 (Conflict 1 0) (4 ∷ [])
  pub one_or : Reports test (1 ∷ []) 4 or_half_and_whole (0 ∷ []) 4 Parallel (12884901891 ∷ [])
  pub stored : Reports test (1 ∷ []) 2 store_half (4294967296 ∷ []) 2 (Conflict 1 0) (4294967297 ∷ [])

-- a refused call, and two calls that pass
pub record CallRows (test : Test) : Type 0 where
  pub refused : report test (record { sizes = 1 ∷ []; insns = loop_with 8388609 0 end }) 20 0 (0 ∷ [])
      ≡ Ended (record {
        ret = 18446744073709551609;
        loops = record { slot = 5; answer = negsuc 6; verdict = Refused }
            ∷ [];
        words = 0 ∷ [];
      })
  pub two : report test two_loops 20 0 (0 ∷ 0 ∷ [])
      ≡ Ended (record {
        ret = 3;
        loops = record { slot = 6; answer = pos 3; verdict = Parallel } ∷ record {
          slot = 12;
          answer = pos 3;
          verdict = Parallel;
        } ∷ [];
        words = 0 ∷ 6 ∷ [];
      })

-- all of them
pub record VerdictRows : Type 0 where
  pub parallel : (test : Test) → ParallelRows test
  pub conflict : (test : Test) → ConflictVerdictRows test
  pub ahead_by_lrpd : AheadRows Lrpd (Conflict 3 1) (Conflict 1 0)
  pub ahead_by_flow : AheadRows Flow Parallel Parallel
  pub halves : (test : Test) → HalfElementRows test
  pub calls : (test : Test) → CallRows test
