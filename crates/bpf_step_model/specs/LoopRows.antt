-- Worked loops in order: what they return and leave. Each is worked out by hand from bpf-helpers(7) and RFC 9669.
use Rattle.std.specs.Prelude.{◌≡◌, ℕ, ℤ, pos, negsuc, List, [], ◌∷◌, ◌++◌, Option, Some, None, replicate}
use Rattle.bpf_insn_types.specs.declared.insn.{Size.TheVariants.{Dw}, Width.TheVariants.{W64}, Compare.TheVariants.{Ne}}
use Rattle.bpf_insn_types.specs.declared.insn.SimpleOp.TheVariants.{Add as AddOp, Or as OrOp, And as AndOp}
use Rattle.bpf_insn_types.specs.declared.insn.{AtomicOp.TheVariants.{Simple, Fetch}, Operand.TheVariants.{Imm}}
use Rattle.bpf_insn_types.specs.declared.insn.{AluOp.TheVariants.{Add, Or, And, Mov}, Callee.TheVariants.{Helper}}
use Rattle.bpf_insn_types.specs.declared.insn.{ImmKind.TheVariants.{Code, Number}, Insn.{Insn, TheVariants.{LoadImm}}}
use Rattle.bpf_insn_types.specs.declared.insn.Insn.TheVariants.{Alu, Call, Exit, Jump, Load, Store, StoreImm, Atomic}
use Rattle.bpf_insn_types.specs.Program.{Program}
use Rattle.bpf_step_model.specs.{State.{LoopCall, Bytes, fresh_frame}, Memory.{written_at}, Run.{Ended, Stuck}}
use Rattle.bpf_step_model.specs.ProgramInOrder.{LoopMade, Finished, program_in_order, valid_call, refused_call}
use Rattle.bpf_step_model.specs.Lines.{mov, alu_imm, alu_reg, map_value, end, element_address, loop_with, loop_of}

-- jne64 r, n, +distance
abbrev pub skip_unless : ℕ → ℕ → ℕ → Insn
skip_unless r n distance = Jump W64 Ne r (Imm (pos n)) (pos distance)

-- atomic64 add [r2+0], r1
abbrev pub add_index : List Insn
add_index = map_value 2 0 0 ∷ Atomic W64 (Simple AddOp) 2 1 (pos 0) ∷ end

-- each element gets the one before it: the value of element i goes to element i + 1
abbrev pub shift_right : List Insn
shift_right = element_address ++ Load Dw 4 3 (pos 0) ∷ Store Dw 3 4 (pos 8) ∷ end

-- each element gets the one after it
abbrev pub shift_left : List Insn
shift_left = element_address ++ Load Dw 4 3 (pos 8) ∷ Store Dw 3 4 (pos 0) ∷ end

-- each element gets 1 more
abbrev pub increment : List Insn
increment = element_address ++ Load Dw 4 3 (pos 0) ∷ alu_imm Add 4 1 ∷ Store Dw 3 4 (pos 0) ∷ end

-- each iteration stores its index in one element, and reads it again
abbrev pub last_writer : List Insn
last_writer = map_value 3 0 0 ∷ Store Dw 3 1 (pos 0) ∷ Load Dw 4 3 (pos 0) ∷ end

-- even iterations add 5, and odd ones or 8
abbrev pub mixed_operators : List Insn
mixed_operators =
    map_value 3 0 0 ∷ mov 0 0 ∷ mov 4 8 ∷ alu_imm And 1 1 ∷ skip_unless 1 0 3
    ∷ mov 4 5 ∷ Atomic W64 (Simple AddOp) 3 4 (pos 0) ∷ Exit ∷ Atomic W64 (Simple OrOp) 3 4 (pos 0) ∷ Exit ∷ []

-- each iteration marks its element, and iteration 5 breaks
abbrev pub break_at_five : List Insn
break_at_five = element_address ++ StoreImm Dw 3 (pos 0) (pos 1) ∷ mov 0 0 ∷ skip_unless 1 5 1 ∷ mov 0 1 ∷ Exit ∷ []

-- iteration 0 stores 1, and iteration 3 breaks where it sees 0: in order it never does
abbrev pub break_that_never_comes : List Insn
break_that_never_comes =
    map_value 3 0 0 ∷ Load Dw 4 3 (pos 0) ∷ mov 0 0 ∷ skip_unless 1 0 2 ∷ StoreImm Dw 3 (pos 0) (pos 1) ∷ Exit
    ∷ skip_unless 1 3 2 ∷ skip_unless 4 0 1 ∷ mov 0 1 ∷ Exit ∷ []

-- each iteration ands the element with (its index or 12)
abbrev pub and_operands : List Insn
and_operands = map_value 3 0 0 ∷ alu_imm Or 1 12 ∷ Atomic W64 (Simple AndOp) 3 1 (pos 0) ∷ end

-- each iteration adds its index and asks for the old value
abbrev pub add_fetched : List Insn
add_fetched = map_value 3 0 0 ∷ Atomic W64 (Fetch AddOp) 3 1 (pos 0) ∷ end

-- a program with the loop of n iterations over these map sizes
abbrev pub looping : List ℕ → ℕ → List Insn → Program
looping sizes n callback = record { sizes = sizes; insns = loop_of n callback }

-- the call of that loop
abbrev pub worked_call : ℕ → LoopCall
worked_call n = record { slot = 5; callback = 7; n = n; ctx = None; frame = fresh_frame }

-- the loop of n iterations answers this, which the program returns, and turns the words before into those after
abbrev pub LoopComputes : List ℕ → ℕ → List Insn → (before : List ℕ) (answer : ℕ) (after : List ℕ) → Type 0
LoopComputes sizes n callback before answer after =
    program_in_order (looping sizes n callback) 20 0 before
    ≡ Ended (record {
      ret = answer;
      loops = valid_call (worked_call n) answer before ∷ [];
      words = after;
    })

-- a loop call by these arguments is refused with this answer and this return value
abbrev pub CallIsRefused : (n flags : ℕ) → ℤ → ℕ → Type 0
CallIsRefused n flags answer ret =
    program_in_order (record { sizes = 1 ∷ []; insns = loop_with n flags end }) 20 0 (0 ∷ [])
    ≡ Ended (record {
      ret = ret;
      loops = refused_call 5 (record { iterations = n; flags = flags; answer = answer }) (0 ∷ []) ∷ [];
      words = 0 ∷ [];
    })

-- loops of one call
pub record OneLoopRows : Type 0 where
  pub none : LoopComputes (1 ∷ []) 0 add_index (5 ∷ []) 0 (5 ∷ [])
  pub sum_wraps : LoopComputes (1 ∷ []) 8 add_index (18446744073709551615 ∷ []) 8 (27 ∷ [])
  pub each_once : LoopComputes (65 ∷ []) 65 increment (replicate 65 0) 65 (replicate 65 1)
  pub carried_right : LoopComputes (5 ∷ []) 4 shift_right (9 ∷ 0 ∷ 0 ∷ 0 ∷ 0 ∷ []) 4 (9 ∷ 9 ∷ 9 ∷ 9 ∷ 9 ∷ [])
  pub carried_left : LoopComputes (5 ∷ []) 4 shift_left (1 ∷ 2 ∷ 3 ∷ 4 ∷ 5 ∷ []) 4 (2 ∷ 3 ∷ 4 ∷ 5 ∷ 5 ∷ [])
  pub last_wins : LoopComputes (1 ∷ []) 5 last_writer (3 ∷ []) 5 (4 ∷ [])
  pub mixed : LoopComputes (1 ∷ []) 4 mixed_operators (1 ∷ []) 4 (27 ∷ [])
  pub breaks : LoopComputes (16 ∷ []) 16 break_at_five (replicate 16 0) 6 (replicate 6 1 ++ replicate 10 0)
  pub never_breaks : LoopComputes (1 ∷ []) 8 break_that_never_comes (0 ∷ []) 8 (1 ∷ [])
  pub ands : LoopComputes (1 ∷ []) 3 and_operands (15 ∷ []) 3 (12 ∷ [])
  pub fetches : LoopComputes (1 ∷ []) 3 add_fetched (0 ∷ []) 3 (3 ∷ [])

-- refused calls: flags before the number of iterations
pub record RefusedCallRows : Type 0 where
  pub too_many : CallIsRefused 8388609 0 (negsuc 6) 18446744073709551609
  pub flags : CallIsRefused 8388608 1 (negsuc 21) 18446744073709551594
  pub flags_first : CallIsRefused 8388609 1 (negsuc 21) 18446744073709551594

-- a valid call of main, where the words stood so
abbrev pub made : (slot callback n : ℕ) → Option ℕ → Bytes → List ℕ → LoopMade
made slot callback n ctx frame words =
    valid_call (record { slot = slot; callback = callback; n = n; ctx = ctx; frame = frame }) n words

-- calls whose first or fourth argument is a number of more than 32 bits, at slot 6, or whose third is 1
abbrev pub arguments : Insn → Insn → Insn → ℤ → List Insn
arguments count ctx flags distance = count ∷ LoadImm Code 2 distance (pos 0) ∷ ctx ∷ flags ∷ Call Helper (pos 181)
    ∷ Exit ∷ add_index

abbrev pub wide_number : ℕ → (low high : ℕ) → Insn
wide_number r low high = LoadImm Number r (pos low) (pos high)

-- from one element that is 0
abbrev pub Finishes : List Insn → Finished → Type 0
Finishes insns finished = program_in_order (record { sizes = 1 ∷ []; insns = insns }) 20 0 (0 ∷ []) ≡ Ended finished

-- 2 ^ 32 + 4 iterations are 4; flags 2 ^ 32 aren't 0; ctx is an address or 0
pub record ArgumentRows : Type 0 where
  pub count_modulo : Finishes (arguments (wide_number 1 4 1) (mov 3 0) (mov 4 0) (pos 5))
      (record { ret = 4; loops = made 6 8 4 None fresh_frame (0 ∷ []) ∷ []; words = 6 ∷ [] })
  pub wide_flags : Finishes (arguments (mov 1 4) (mov 3 0) (wide_number 4 0 1) (pos 6))
      (record {
        ret = 18446744073709551594;
        loops = refused_call 6 (record { iterations = 4; flags = 4294967296; answer = negsuc 21 }) (0 ∷ []) ∷ [];
        words = 0 ∷ [];
      })
  pub ctx_of_one : program_in_order (record { sizes = 1 ∷ []; insns = arguments (mov 1 4) (mov 3 1) (mov 4 0) (pos 5) })
      20 0 (0 ∷ []) ≡ Stuck

-- main stores 5 on its frame, and each iteration adds that through ctx
abbrev pub through_ctx : Program
through_ctx = record {
  sizes = 1 ∷ [];
  insns = StoreImm Dw 10 (negsuc 7) (pos 5) ∷ mov 1 4 ∷ LoadImm Code 2 (pos 6) (pos 0) ∷ alu_reg Mov 3 10
      ∷ Alu W64 Add 3 (Imm (negsuc 7))
      ∷ mov 4 0 ∷ Call Helper (pos 181) ∷ Exit ∷ Load Dw 4 2 (pos 0) ∷ map_value 3 0 0 ∷ Atomic W64 (Simple AddOp) 3 4
      (pos 0) ∷ end;
}

abbrev pub five_on_frame : Bytes
five_on_frame = written_at fresh_frame 504 8 5

-- two loops of one callback that adds its index to element 1
abbrev pub loop_lines : ℤ → List Insn
loop_lines distance = alu_reg Mov 1 6 ∷ LoadImm Code 2 distance (pos 0) ∷ mov 3 0 ∷ mov 4 0 ∷ Call Helper (pos 181) ∷ []

abbrev pub two_loops : Program
two_loops = record {
  sizes = 2 ∷ [];
  insns = mov 6 3 ∷ (loop_lines (pos 11)
      ++ (loop_lines (pos 5) ++ (Exit ∷ map_value 3 0 8 ∷ Atomic W64 (Simple AddOp) 3 1 (pos 0) ∷ end)));
}

-- main's frame through ctx, and a second loop that starts from what the first left
pub record MainRows : Type 0 where
  pub ctx : program_in_order through_ctx 20 0 (0 ∷ [])
      ≡ Ended (record { ret = 4; loops = made 7 9 4 (Some 504) five_on_frame (0 ∷ []) ∷ []; words = 20 ∷ [] })
  pub twice : program_in_order two_loops 20 0 (0 ∷ 0 ∷ [])
      ≡ Ended (record {
        ret = 3;
        loops = made 6 14 3 None fresh_frame (0 ∷ 0 ∷ []) ∷ made 12 14 3 None fresh_frame
            (0 ∷ 3 ∷ []) ∷ [];
        words = 0 ∷ 6 ∷ [];
      })

-- all of them
pub record LoopRows : Type 0 where
  pub one : OneLoopRows
  pub refused : RefusedCallRows
  pub arguments : ArgumentRows
  pub main : MainRows
