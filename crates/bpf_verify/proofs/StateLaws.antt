-- The abstract states that are kept as a pass goes on.
use Rattle.std.proofs.Common.{◌≡◌, ℕ, ◌+◌, ◌<◌, ◌≤◌, Bool, true, false, List, take, length, get_or, refl, ap, sym, ◌∙◌}
use Rattle.std.proofs.Common.{subst, arith, Option, Some, None, is_some, get_or-set_other}
use Rattle.std.{proofs.lemmas.{Grind.{get_or-set_at}, Bool.Decides.{nat_tests}}, specs.Prelude.{nat_lt, slice_set}}
use Rattle.bpf_insn_types.specs.{declared.insn.Insn.{Insn}, Program.{Program, insn_at, slot_count, named_by}}
use Rattle.bpf_insn_types.{specs.Slots.{slots_of}, proofs.ProgramLaws.{insn_at-index_inner}}
use Rattle.bpf_insn_types.proofs.ProgramLaws.{insn_at-end, slots_some, slot_count-front, slot_count-more, insn_at-index}
use Rattle.bpf_verify_model.specs.{declared.state.State.{State}, Rules.{fault_of, targets_in, with_target}}
use Rattle.bpf_verify_model.{specs.Inflow.{incoming, state_before, received_all}, proofs.JumpLaws.{fault_at-none}}
use Rattle.bpf_verify_model.specs.Accepted.{fault_at_insn, fault_within}
use Rattle.bpf_verify.specs.{Passing.{Passed, out_of}, States.{AreStatesBefore}}
use Rattle.bpf_verify.proofs.PassLaws.{passed-more, known-here}

-- a list has the abstract state before each of the first n slots where an instruction starts
pub record StatesBelow (program : Program) (count : ℕ) (states : List (Option State)) : Type 0 where
  pub at : (slot : ℕ) → slot < count → is_some (insn_at program.insns slot) ≡ true
      → get_or states slot None ≡ state_before program slot

pub states-none : (program : Program) (states : List (Option State)) → StatesBelow program 0 states
states-none program states = record { at = λ slot h here. absurd (omega arith) }

-- one more is kept
pub states-put : (program : Program) (slot : ℕ) (before : Option State) (states states' : List (Option State)) →
    StatesBelow program slot states → slot < length states → before ≡ incoming program slot slot
    → states' ≡ slice_set states slot before → StatesBelow program (slot + 1) states'
states-put program slot before states states' below inside is put =
    subst (StatesBelow program (slot + 1)) (sym put) (record {
      at = λ k h here. by_place program slot before states below inside is k h here (nat_lt k slot) refl;
    })
  where
    by_place : (program : Program) (slot : ℕ) (before : Option State) (states : List (Option State)) →
        StatesBelow program slot states → slot < length states → before ≡ incoming program slot slot →
        (k : ℕ) → k < slot + 1 → is_some (insn_at program.insns k) ≡ true → (b : Bool) → nat_lt k slot ≡ b →
        get_or (slice_set states slot before) k None ≡ state_before program k
    by_place program slot before states below inside is k h here true e =
        let earlier : k < slot = grind (arith, nat_tests) in
        get_or-set_other states slot k before None (omega arith) ∙ below.at k earlier here
    by_place program slot before states below inside is k h here false e =
        let same : k ≡ slot = grind (arith, nat_tests) in
        get_or-set_at states slot k before None same inside ∙ is ∙ sym (ap (state_before program) same)

-- an instruction's second slot is none where one starts
pub states-over : (program : Program) (slot n : ℕ) (states : List (Option State))
    → StatesBelow program (slot + 1) states
    → ((k : ℕ) → slot < k → k < slot + n → insn_at program.insns k ≡ None) → StatesBelow program (slot + n) states
states-over program slot n states below inner = record {
  at = λ k h here. by_place program slot n states below inner k h here (nat_lt slot k) refl;
}
  where
    by_place : (program : Program) (slot n : ℕ) (states : List (Option State)) → StatesBelow program (slot + 1) states
        → ((k : ℕ) → slot < k → k < slot + n → insn_at program.insns k ≡ None) → (k : ℕ) → k < slot + n →
        is_some (insn_at program.insns k) ≡ true → (b : Bool) → nat_lt slot k ≡ b
        → get_or states k None ≡ state_before program k
    by_place program slot n states below inner k h here true e =
        let later : slot < k = grind (arith, nat_tests) in
        let none : insn_at program.insns k ≡ None = inner k later h in
        absurd cc
    by_place program slot n states below inner k h here false e =
        let within : k < slot + 1 = grind (arith, nat_tests) in
        below.at k within here

-- up to the last slot
pub states-up_to : (program : Program) (slot last : ℕ) (states : List (Option State))
    → StatesBelow program (slot + 1) states
    → last ≤ slot → length states ≡ slot_count program.insns → AreStatesBefore program last states
states-up_to program slot last states below past size = record {
  size = size;
  at = λ k h here. below.at k (omega arith) here;
}

-- of all slots
pub states-all : (program : Program) (last count : ℕ) (states : List (Option State)) → StatesBelow program count states
    → slot_count program.insns ≡ count → length states ≡ slot_count program.insns → AreStatesBefore program last states
states-all program last count states below counted size = record {
  size = size;
  at = λ k h here. by_place program count states below counted k here (nat_lt k count) refl;
}
  where
    by_place : (program : Program) (count : ℕ) (states : List (Option State)) → StatesBelow program count states
        → slot_count program.insns ≡ count → (k : ℕ) → is_some (insn_at program.insns k) ≡ true → (b : Bool)
        → nat_lt k count ≡ b → get_or states k None ≡ state_before program k
    by_place program count states below counted k here true e = below.at k (grind (arith, nat_tests)) here
    by_place program count states below counted k here false e =
        let past : count ≤ k = grind (arith, nat_tests) in
        let none : insn_at program.insns k ≡ None = insn_at-end program.insns k (omega arith) in
        absurd cc

-- an instruction before the last slot breaks no rule
fine-here : (program : Program) (slot last : ℕ) (insn : Insn) (before : Option State) → fault_within program last ≡ None
    → slot < last → insn_at program.insns slot ≡ Some insn → before ≡ state_before program slot
    → fault_of program slot insn before ≡ None
fine-here program slot last insn before fine early here is =
    ap (fault_of program slot insn) is ∙ sym (ap (fault_at_insn program slot) here)
    ∙ fault_at-none program last slot fine early

-- an instruction before the last slot is passed
pub passed-fine : (program : Program) (slot last : ℕ) (insn : Insn) (before : Option State)
    (table table' : List (Option State)) → fault_within program last ≡ None → slot < last →
    Passed program slot (targets_in program.insns slot) table → insn_at program.insns slot ≡ Some insn
    → slot < length table → before ≡ get_or table slot None →
    ((t : ℕ) → t < length table → get_or table' t None ≡ received_all t (get_or table t None)
    (out_of program.sizes slot insn before)) → length table' ≡ length table →
    Passed program (slot + 1) (with_target (targets_in program.insns slot) (named_by slot insn)) table'
passed-fine program slot last insn before table table' fine early passed here inside read handed size =
    passed-more program slot insn before (named_by slot insn) (targets_in program.insns slot)
    (with_target (targets_in program.insns slot) (named_by slot insn)) table table' passed here inside read
    (fine-here program slot last insn before fine early here
    (known-here program slot before (targets_in program.insns slot) table passed inside read)) refl refl handed size

-- a pass's targets are those of its slots
pub passed-listed : (program : Program) (slot : ℕ) (targets : List ℕ) (table : List (Option State)) →
    Passed program slot targets table → Passed program slot (targets_in program.insns slot) table
passed-listed program slot targets table passed =
    subst (λ (ts : List ℕ). Passed program slot ts table) passed.listed passed

-- an instruction of a list, at its slot
pub record Here (insns : List Insn) (count slot i : ℕ) (x : Insn) : Type 0 where
  pub here : insn_at insns slot ≡ Some x
  pub inside : slot + slots_of x ≤ count
  pub some : 1 ≤ slots_of x
  pub more : slot + slots_of x ≡ slot_count (take (i + 1) insns)
  pub inner : (k : ℕ) → slot < k → k < slot + slots_of x → insn_at insns k ≡ None

pub here-index : (insns : List Insn) (count slot i : ℕ) (x : Insn) → slot_count insns ≡ count → i < length insns
    → x ≡ get_or insns i x → slot ≡ slot_count (take i insns) → Here insns count slot i x
here-index insns count slot i x counted inside is low = record {
  here = ap (insn_at insns) low ∙ insn_at-index insns i x inside is;
  inside = omega (arith, slot_count-front insns i x inside is);
  some = slots_some x;
  more = omega (arith, slot_count-more insns i x inside is);
  inner = λ k m n. insn_at-index_inner insns i x k inside is (omega arith) (omega arith);
}
