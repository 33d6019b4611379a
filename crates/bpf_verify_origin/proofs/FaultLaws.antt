-- The first fault of a program, and the slots up to it.
use Rattle.std.proofs.Common.{◌≡◌, ℕ, zero, suc, ◌<◌, ◌≤◌, inl, inr, ◌⊎◌, Bool, true, false, List, refl, sym, ◌∙◌}
use Rattle.std.proofs.{Common.{subst, arith, Option, Some, None, is_some}, lemmas.Bool.Decides.{nat_tests}}
use Rattle.std.{specs.Prelude.{nat_eq, if◌then◌else◌}, proofs.lemmas.Bool.{cases_lt, ltb-false}}
use Rattle.bpf_insn_types.specs.{declared.insn.Insn.{Insn}, Program.{Program, insn_at, slot_count}}
use Rattle.bpf_insn_types.proofs.ProgramLaws.{insn_at-end}
use Rattle.bpf_verify_model.specs.declared.rule.Rule.{Rule, TheVariants.{NoSlot, OverLimits}}
use Rattle.bpf_verify_model.specs.Accepted.{BrokenRule, unless_earlier, fault_at, fault_at_insn, fault_within}
use Rattle.bpf_verify_model.specs.Accepted.{first_fault, is_too_large, WithinLimits}
use Rattle.bpf_verify_model.proofs.JumpLaws.{first_fault-within}
use Rattle.bpf_verify.proofs.PassLaws.{fault_within-later}
use Rattle.bpf_verify_origin.specs.{Edges.{slots_before, passed_slots}, Inspected.{IsPassedTo}}

-- an instruction starts within the slots
pub starts-within : (insns : List Insn) (slot : ℕ) → is_some (insn_at insns slot) ≡ true → slot < slot_count insns
starts-within insns slot here =
    elim (cases_lt slot (slot_count insns)) [
      | inl inside ↦ inside
      | inr past ↦ absurd (let none = insn_at-end insns slot past in cc)
    ]

-- a rule is broken where an instruction starts
fault-starts : (program : Program) (slot : ℕ) (insn : Option Insn) (rule : Rule)
    → fault_at_insn program slot insn ≡ Some rule → is_some insn ≡ true
fault-starts program slot None rule broken = cc
fault-starts program slot (Some insn) rule broken = refl

-- an instruction breaks a rule at the slot of a fault, and no earlier slot does
pub record Found (program : Program) (fault : BrokenRule) : Type 0 where
  pub fine : fault_within program fault.slot ≡ None
  pub broken : fault_within program (suc fault.slot) ≡ Some fault
  pub starts : is_some (insn_at program.insns fault.slot) ≡ true

pub found : (program : Program) (n : ℕ) (fault : BrokenRule) → fault_within program n ≡ Some fault
    → Found program fault
unfolding fault_within
found program zero fault is = absurd cc
found program (suc n) fault is = by_first (fault_within program n) refl is (found program n fault)
  where
    by_rule : (rule : Option Rule) → fault_at program n ≡ rule → fault_within program n ≡ None
        → unless_earlier None n rule ≡ Some fault → Found program fault
    by_rule None broken fine is = absurd cc
    by_rule (Some rule) broken fine is =
        let same : record { rule = rule; slot = n } ≡ fault = cc in
        subst (Found program) same (record {
          fine = fine;
          broken = rw (fine, broken) refl;
          starts = fault-starts program n (insn_at program.insns n) rule broken;
        })

    by_first : (first : Option BrokenRule) → fault_within program n ≡ first
        → unless_earlier first n (fault_at program n) ≡ Some fault
        → (fault_within program n ≡ Some fault → Found program fault) → Found program fault
    by_first (Some first) earlier is go = go (earlier ∙ is)
    by_first None fine is go = by_rule (fault_at program n) refl fine is

-- the slots before the first fault break no rule
pub passed-fine : (program : Program) (count : ℕ) (fault : Option BrokenRule) → fault ≡ first_fault program
    → WithinLimits program count → fault_within program (slots_before fault count) ≡ None
passed-fine program count None is within = sym (is ∙ first_fault-within program count within)
passed-fine program count (Some fault) is within =
    (found program count fault (sym (is ∙ first_fault-within program count within))).fine

-- a slot to which the pass comes is one up to the first fault
pub passed-up_to : (program : Program) (slot : ℕ) → IsPassedTo program slot → slot ≤ passed_slots program
passed-up_to program slot to = by_fault (first_fault program) refl
  where
    by_fault : (fault : Option BrokenRule) → first_fault program ≡ fault
        → slot ≤ slots_before fault (slot_count program.insns)
    by_fault None is = omega (arith, starts-within program.insns slot to.starts)
    by_fault (Some fault) is =
        let f = found program (slot_count program.insns) fault
        (sym (first_fault-within program (slot_count program.insns) to.within) ∙ is) in
        elim (cases_lt fault.slot slot) [
          | inl past ↦ absurd (
              let later = fault_within-later program (suc fault.slot) slot fault f.broken (omega arith) in
              let fine = to.fine in
              cc
              )
          | inr up_to ↦ up_to
        ]

-- a program is within the limits, or it has no slot before its first fault
pub limits : (program : Program) → WithinLimits program (slot_count program.insns) ⊎ (passed_slots program ≡ 0)
unfolding first_fault
limits program = by_tests (nat_eq (slot_count program.insns) 0) refl (is_too_large program) refl
  where
    by_tests : (empty : Bool) → nat_eq (slot_count program.insns) 0 ≡ empty → (large : Bool)
        → is_too_large program ≡ large → WithinLimits program (slot_count program.insns)
        ⊎ (slots_before (if empty then Some (record { rule = NoSlot; slot = 0 })
        else if large then Some (record { rule = OverLimits; slot = 0 })
        else fault_within program (slot_count program.insns)) (slot_count program.insns) ≡ 0)
    by_tests true e large f = inr refl
    by_tests false e true f = inr refl
    by_tests false e false f = inl (record {
      counted = refl;
      some = grind (arith, nat_tests);
      few = ltb-false 4096 (slot_count program.insns) (grind (arith, nat_tests));
      small = f;
    })

-- no more slots are before the first fault than there are
pub passed-within : (program : Program) → passed_slots program ≤ slot_count program.insns
passed-within program = by_fault (first_fault program) refl (limits program)
  where
    by_fault : (fault : Option BrokenRule) → first_fault program ≡ fault
        → WithinLimits program (slot_count program.insns) ⊎ (slots_before fault (slot_count program.insns) ≡ 0)
        → slots_before fault (slot_count program.insns) ≤ slot_count program.insns
    by_fault None is limits = omega arith
    by_fault (Some fault) is (inr none) = omega (arith, none)
    by_fault (Some fault) is (inl within) =
        let f = found program (slot_count program.insns) fault
        (sym (first_fault-within program (slot_count program.insns) within) ∙ is) in
        omega (arith, starts-within program.insns fault.slot f.starts)
