-- The instructions up to the first fault, and what is known there.
use Rattle.std.proofs.Common.{◌≡◌, ℕ, ◌+◌, ◌<◌, ◌≤◌, Bool, true, false, not, ◌||◌, List, [], ◌++◌}
use Rattle.std.proofs.Common.{length, drop, get_or, append_assoc, refl, sym, ap, ◌∙◌, arith, Option, Some}
use Rattle.std.{proofs.Common.{None, is_some}, specs.Prelude.{IfSome, nat_eq, nat_lt, if◌then◌else◌}}
use Rattle.std.proofs.lemmas.Bool.Decides.{nat_tests}
use Rattle.bpf_insn_types.specs.{declared.insn.Insn.{Insn}, Limits.{sizes_fit}, Slots.{slots_of}}
use Rattle.bpf_insn_types.specs.Program.{Program, insn_at, slot_count}
use Rattle.bpf_verify_model.specs.declared.{rule.Rule.TheVariants.{NoSlot, OverLimits}, state.State.{State}}
use Rattle.bpf_verify_model.specs.Accepted.{fault_within, first_fault, is_too_large, WithinLimits}
use Rattle.bpf_verify_model.specs.Inflow.{state_before}
use Rattle.bpf_verify_origin.{specs.Inspected.{is_up_to, IsPassedTo, IsStateBefore}, proofs.FaultLaws.{starts-within}}
use Rattle.bpf_verify_origin.proofs.PassedLaws.{up_to-passed}
use Rattle.bpfspec_records.specs.{declared.records.Record.{Record}, Units.{insn_records, known_before, slot_records}}
use Rattle.bpfspec_records.proofs.EachLaws.{front}

few_of : (a b : Bool) (count : ℕ) → nat_lt 4096 count ≡ a → (a || b) ≡ false → count ≤ 4096
few_of true b count e f = absurd cc
few_of false b count e f = grind (arith, nat_tests)

-- a program that isn't too large is within the limits, where an instruction starts
within-of : (program : Program) (slot : ℕ) → is_some (insn_at program.insns slot) ≡ true
    → is_too_large program ≡ false → WithinLimits program (slot_count program.insns)
within-of program slot starts small = record {
  counted = refl;
  some = omega (arith, starts-within program.insns slot starts);
  few = few_of (nat_lt 4096 (slot_count program.insns)) (not (sizes_fit program.sizes)) (slot_count program.insns)
      refl small;
  small = small;
}

-- what an inspection has before a slot up to the first fault
pub known-there : (program : Program) (slot : ℕ) (found : Option State)
    → is_some (insn_at program.insns slot) ≡ true → is_up_to (first_fault program) slot ≡ true
    → IfSome found (λ state. IsStateBefore program slot state)
    → (IsPassedTo program slot → found ≡ state_before program slot) → found ≡ known_before program slot
known-there program slot found starts up there whole =
    by_size program slot found starts up there whole (is_too_large program) refl
  where
    by_size : (program : Program) (slot : ℕ) (found : Option State)
        → is_some (insn_at program.insns slot) ≡ true → is_up_to (first_fault program) slot ≡ true
        → IfSome found (λ state. IsStateBefore program slot state)
        → (IsPassedTo program slot → found ≡ state_before program slot)
        → (large : Bool) → is_too_large program ≡ large
        → found ≡ (if large then None else state_before program slot)
    by_size program slot None starts up there whole true e = refl
    by_size program slot (Some state) starts up there whole true e =
        let small : is_too_large program ≡ false = there.passed.within.small in
        absurd cc
    by_size program slot found starts up there whole false e =
        whole (up_to-passed program slot (first_fault program) refl up (within-of program slot starts e) starts)

-- a slot up to the first fault of a program that is too large is the first
large-first : (program : Program) (slot : ℕ) → is_too_large program ≡ true
    → is_up_to (first_fault program) slot ≡ true → slot ≤ 0
unfolding first_fault
large-first program slot large up =
    by_tests program slot large (nat_eq (slot_count program.insns) 0) refl (is_too_large program) refl up
  where
    by_tests : (program : Program) (slot : ℕ) → is_too_large program ≡ true → (a : Bool)
        → nat_eq (slot_count program.insns) 0 ≡ a → (b : Bool) → is_too_large program ≡ b
        → is_up_to (if a then Some (record { rule = NoSlot; slot = 0 })
        else if b then Some (record { rule = OverLimits; slot = 0 })
        else fault_within program (slot_count program.insns)) slot ≡ true → slot ≤ 0
    by_tests program slot large true e b f up = grind (arith, nat_tests)
    by_tests program slot large false e true f up = grind (arith, nat_tests)
    by_tests program slot large false e false f up = absurd cc

-- a slot up to the first fault is below 4,096
pub slot-small : (program : Program) (slot : ℕ) → is_some (insn_at program.insns slot) ≡ true
    → is_up_to (first_fault program) slot ≡ true → slot < 4096
slot-small program slot starts up = by_size program slot starts up (is_too_large program) refl
  where
    by_size : (program : Program) (slot : ℕ) → is_some (insn_at program.insns slot) ≡ true
        → is_up_to (first_fault program) slot ≡ true → (large : Bool) → is_too_large program ≡ large → slot < 4096
    by_size program slot starts up true e =
        let first : slot ≤ 0 = large-first program slot e up in
        omega arith
    by_size program slot starts up false e =
        let within : WithinLimits program (slot_count program.insns) = within-of program slot starts e in
        omega (arith, within.few, starts-within program.insns slot starts)

-- one instruction more
pub insns-more : (with_values : Bool) (program : Program) (insns : List Insn) (slot next i : ℕ) (insn : Insn)
    (before after whole : List Record) → i < length insns → insn ≡ get_or insns i insn
    → is_up_to (first_fault program) slot ≡ true → next ≡ slot + slots_of insn
    → before ++ insn_records with_values program slot (drop i insns) ≡ whole
    → after ≡ before ++ slot_records with_values program slot insn
    → after ++ insn_records with_values program next (drop (i + 1) insns) ≡ whole
insns-more with_values program insns slot next i insn before after whole within read up moved so_far added =
    let rest : List Record = insn_records with_values program (slot + slots_of insn) (drop (i + 1) insns) in
    let here : List Record = slot_records with_values program slot insn in
    let all : (if is_up_to (first_fault program) slot then here ++ rest else []) ≡ here ++ rest =
    ap (λ (b : Bool). if b then here ++ rest else []) up in
    ap (λ (n : ℕ). after ++ insn_records with_values program n (drop (i + 1) insns)) moved
    ∙ ap (λ (rs : List Record). rs ++ rest) added
    ∙ append_assoc before here rest
    ∙ ap (λ (rs : List Record). before ++ rs) (sym all)
    ∙ ap (λ (is : List Insn). before ++ insn_records with_values program slot is) (sym (front insns i insn within read))
    ∙ so_far
