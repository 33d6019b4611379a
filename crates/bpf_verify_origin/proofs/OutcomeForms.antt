-- What each instruction does: which machines it goes on to, and when it calls a loop.
use Rattle.std.proofs.Common.{◌≡◌, ℕ, suc, ◌+◌, true, false, List, ◌∷◌, ◌++◌, drop, replicate, get_or, set}
use Rattle.std.proofs.{Common.{Option, Some, None, refl, sym, ap, ◌∙◌, subst, arith}, lemmas.Bool.Decides.{nat_tests}}
use Rattle.std.{specs.Prelude.{nat_le, ◌==◌}, proofs.lemmas.List.{get_or-set_other, get_or-drop}}
use Rattle.bpf_insn_types.specs.{declared.insn.SimpleOp.{SimpleOp}, declared.insn.Insn.TheVariants.{Call}}
use Rattle.bpf_insn_types.specs.{declared.insn.AtomicOp.{AtomicOp}, Slots.{slots_of}, Program.{Program, insn_at}}
use Rattle.bpf_insn_types.specs.{declared.insn.Insn.{Insn}, Words.{word_of}}
use Rattle.bpf_insn_types.specs.declared.insn.AtomicOp.TheVariants.{Simple, Fetch as FetchOp, Xchg as XchgOp, Cmpxchg}
use Rattle.array_maps.specs.{declared.access.Part.{Part}, declared.access.Part.TheVariants.{Whole, Half as Of}}
use Rattle.array_maps.specs.Halves.{part_of}
use Rattle.bpf_step_model.specs.State.{Value, Unwritten, Word, Bytes, Machine, register, advanced, with_register}
use Rattle.bpf_step_model.specs.{State.{with_frame, after_call}, Run.{part_bytes, after_request}}
use Rattle.bpf_step_model.specs.ProgramInOrder.{resumed}
use Rattle.bpf_step_model.specs.Step.{StepOutcome, NoStep, Next, Asks, Loops, Refuses, Exits, store_of, tells}
use Rattle.bpf_step_model.specs.Step.{request_of, extended, update_of, insn_step, insn_step_if_any, step}
use Rattle.bpf_verify_sound.proofs.StepCases.{destination, IsJump, step-cases, within-case}
use Rattle.bpf_verify_origin.specs.{Sources.{fetches, writes_register, is_call}, Runs.{GoesOnTo, Enters}}

-- where an outcome is a loop call, this holds; and that of each machine that it goes on to
abbrev pub Outcome : Type 0 → (Machine → Type 0) → StepOutcome → Type 0
Outcome E P NoStep = Unit {0}
Outcome E P (Next next) = P next
Outcome E P (Asks element request next) = (word : ℕ) → P (after_request request word next)
Outcome E P (Loops call next) = E × ((answer : ℕ) → P (resumed next answer))
Outcome E P (Refuses call next) = P next
Outcome E P (Exits ret) = Unit {0}

pub outcome-goes : (E : Type 0) (P : Machine → Type 0) (move : StepOutcome) (m : Machine) → Outcome E P move
    → GoesOnTo move m → P m
outcome-goes E P NoStep m o g = absurd g
outcome-goes E P (Next next) m o g = subst P (sym g) o
outcome-goes E P (Asks element request next) m o g = subst P (sym g.2) (o g.0)
outcome-goes E P (Loops call next) m o g = subst P (sym g.2) (o.1 g.0)
outcome-goes E P (Refuses call next) m o g = subst P (sym g) o
outcome-goes E P (Exits ret) m o g = absurd g

pub outcome-enters : (E : Type 0) (P : Machine → Type 0) (move : StepOutcome) (m : Machine) → Outcome E P move
    → Enters move m → E
outcome-enters E P (Loops call next) m o g = o.0
outcome-enters E P move m o g = absurd g

-- ---- what is so of each machine that an instruction goes on to

-- another register than the one that is written
set-other : (xs : List Value) (i j : ℕ) (x d : Value) → (i == j) ≡ false → get_or (set xs i x) j d ≡ get_or xs j d
set-other xs i j x d e = grind (arith, nat_tests, get_or-set_other)

-- a call keeps R6 to R10
kept-by_call : (v : Value) (xs : List Value) (reg : ℕ) → nat_le reg 5 ≡ false
    → get_or (v ∷ (replicate 5 Unwritten ++ drop 6 xs)) reg Unwritten ≡ get_or xs reg Unwritten
kept-by_call v xs (suc (suc (suc (suc (suc (suc k)))))) e =
    get_or-drop 6 xs k Unwritten ∙ ap (λ (j : ℕ). get_or xs j Unwritten) (omega arith)
kept-by_call v xs _ e = absurd cc

-- an instruction leaves a register alone that it doesn't write, and a call goes on at the next slot
pub record Behind (insn : Insn) (reg : ℕ) (before m : Machine) : Type 0 where
  pub same : writes_register insn reg ≡ false → register m reg ≡ register before reg
  pub next : is_call insn ≡ true → m.slot ≡ before.slot + 1

-- main alone calls a loop, and only by a call
pub record CallsLoop (insn : Insn) (m : Machine) : Type 0 where
  pub is : is_call insn ≡ true
  pub main : m.caller ≡ None

written : (insn : Insn) (dst reg : ℕ) → destination insn ≡ Some dst → writes_register insn reg ≡ (dst == reg)
written insn dst reg e = grind (arith, nat_tests)

call-next : (insn : Insn) (slot : ℕ) → is_call insn ≡ true → slot + slots_of insn ≡ slot + 1
call-next insn slot e = grind (arith, nat_tests)

jump-no_call : (insn : Insn) (slot k : ℕ) → IsJump insn → is_call insn ≡ true → k ≡ slot
jump-no_call (Call kind imm) slot k jump e = absurd jump
jump-no_call insn slot k jump e = absurd cc

set-behind : (insn : Insn) (dst reg : ℕ) (m : Machine) (v : Value) → destination insn ≡ Some dst
    → Behind insn reg m (with_register dst v (advanced (slots_of insn) m))
set-behind insn dst reg m v into = record {
  same = λ e. set-other m.registers dst reg v Unwritten (sym (written insn dst reg into) ∙ e);
  next = call-next insn m.slot;
}

put-behind : (insn : Insn) (reg : ℕ) (before m : Machine) (part : Part) (n word : ℕ) → Behind insn reg before m
    → Behind insn reg before (after_request (store_of part n) word m)
put-behind insn reg before m Whole n word b = b
put-behind insn reg before m (Of half) n word b = b

call-behind : (insn : Insn) (reg : ℕ) (m : Machine) (v : Value) → writes_register insn reg ≡ nat_le reg 5
    → Behind insn reg m (after_call v (advanced 1 m))
call-behind insn reg m v writes = record {
  same = λ e. kept-by_call v m.registers reg (sym writes ∙ e);
  next = λ e. refl;
}

-- an atomic operation tells its old number elsewhere
swapped : (i j : ℕ) → (i == j) ≡ false → (j == i) ≡ false
swapped i j e = grind (arith, nat_tests)

told-other : (op : AtomicOp) (src reg : ℕ) (m : Machine) (frame : Bytes) (old : ℕ) → fetches op src reg ≡ false
    → register (tells op src old (with_frame frame (advanced 1 m))) reg ≡ register m reg
told-other (Simple op) src reg m frame old e = refl
told-other (FetchOp op) src reg m frame old e = set-other m.registers src reg (Word old) Unwritten e
told-other XchgOp src reg m frame old e = set-other m.registers src reg (Word old) Unwritten e
told-other Cmpxchg src reg m frame old e = set-other m.registers 0 reg (Word old) Unwritten (swapped reg 0 e)

updated-same : (part : Part) (op : SimpleOp) (operand word reg : ℕ) (m : Machine)
    → register (after_request (update_of part op operand) word (advanced 1 m)) reg ≡ register m reg
updated-same Whole op operand word reg m = refl
updated-same (Of half) op operand word reg m = refl

told-there : (op : AtomicOp) (src reg : ℕ) (m : Machine) (operand compare : ℕ) (part : Part) (word : ℕ)
    → fetches op src reg ≡ false
    → register (after_request (request_of part op src operand compare) word (advanced 1 m)) reg ≡ register m reg
told-there (Simple op) src reg m operand compare part word e = updated-same part op operand word reg m
told-there op src reg m operand compare part word e = told-other op src reg m m.frame (part_of part word) e

-- each instruction
insn_step-does : (program : Program) (m : Machine) (insn : Insn) (reg : ℕ)
    → Outcome (CallsLoop insn m) (Behind insn reg m) (insn_step program m insn)
insn_step-does program m insn reg =
    step-cases program m (λ insn. Outcome (CallsLoop insn m) (Behind insn reg m)) (record {
      stuck = λ insn. tt;
      sets = λ insn dst v into goes e. set-behind insn dst reg m v into;
      jumps = λ insn slot jump e. record { same = λ e. refl; next = jump-no_call insn (m.slot + 1) slot jump };
      falls = λ width compare dst operand offset. record { same = λ e. refl; next = λ e. refl };
      loads = λ insn element dst part extension into goes word.
          set-behind insn dst reg m (Word (extended extension (part_bytes part) (part_of part word))) into;
      stores = λ insn position size n goes inside. record { same = λ e. refl; next = call-next insn m.slot };
      puts = λ insn element n part goes e word. put-behind insn reg m _ part n word
          (record { same = λ e. refl; next = call-next insn m.slot });
      changes = λ width op dst src offset position operand compare old inside e.
          record { same = told-other op src reg m _ old; next = λ e. absurd cc };
      updates = λ width op dst src offset element operand compare part e word.
          record { same = told-there op src reg m operand compare part word; next = λ e. absurd cc };
      answers = λ kind imm map key v e there. call-behind (Call kind imm) reg m v refl;
      refuses = λ kind imm count flags call main e. call-behind (Call kind imm) reg m (Word (word_of call.answer)) refl;
      loops = λ kind imm count flags start n ctx a e. (
        record { is = refl; main = a.main },
        λ answer. call-behind (Call kind imm) reg m (Word answer) refl,
      );
      exits = λ n e bit. tt;
    }) insn

pub step-does : (program : Program) (m : Machine) (insn : Insn) (reg : ℕ) → insn_at program.insns m.slot ≡ Some insn
    → Outcome (CallsLoop insn m) (Behind insn reg m) (step program m)
unfolding step
step-does program m insn reg here =
    let P = Outcome (CallsLoop insn m) (Behind insn reg m) in
    subst (λ (o : Option Insn). P (insn_step_if_any program m o)) (sym here)
    (within-case P program m.slot (insn_step program m insn) tt (λ leads. insn_step-does program m insn reg))
