-- What is true of an accepted program: no slot breaks a rule, and jumps lead forward.
use Rattle.std.proofs.Common.{◌≡◌, ℕ, zero, suc, ◌<◌, ◌≤◌, Bool, true, false, not, ◌&&◌, ◌||◌, List, refl, ap, sym, ◌∙◌}
use Rattle.std.{proofs.Common.{arith, Option, Some, None, is_some}, specs.Prelude.{nat_lt, nat_eq, if◌then◌else◌}}
use Rattle.std.proofs.lemmas.Bool.Decides.{nat_tests}
use Rattle.bpf_insn_types.specs.{declared.insn.Insn.{Insn}, Limits.{sizes_fit, AreSizes}}
use Rattle.bpf_insn_types.{specs.Program.{Program, slot_count, insn_at, leads_to}, proofs.ProgramLaws.{insn_at-end}}
use Rattle.bpf_verify_model.specs.declared.rule.Rule.{Rule, TheVariants.{NoSlot, OverLimits, JumpTarget}}
use Rattle.bpf_verify_model.specs.Rules.{jump_distance, jump_target, leads_later, jumps_astray, slot_fault, or_else}
use Rattle.bpf_verify_model.specs.{Rules.{fault_of}, Inflow.{state_before}, Count.{JumpsForward}}
use Rattle.bpf_verify_model.specs.Accepted.{BrokenRule, unless_earlier, fault_at, fault_at_insn, fault_within}
use Rattle.bpf_verify_model.specs.Accepted.{first_fault, is_too_large, WithinLimits}

unless_earlier-first : (f : Option BrokenRule) (slot : ℕ) (r : Option Rule) → unless_earlier f slot r ≡ None → f ≡ None
unless_earlier-first None slot r e = refl
unless_earlier-first (Some f) slot r e = e

unless_earlier-later : (f : Option BrokenRule) (slot : ℕ) (r : Option Rule) → unless_earlier f slot r ≡ None → r ≡ None
unless_earlier-later (Some f) slot r e = cc
unless_earlier-later None slot None e = refl
unless_earlier-later None slot (Some r) e = cc

-- where no slot of the first has a fault, none of them has
pub fault_at-none : (program : Program) (n slot : ℕ) → fault_within program n ≡ None → slot < n
    → fault_at program slot ≡ None
unfolding fault_within
fault_at-none program zero slot e h = absurd (omega arith)
fault_at-none program (suc n) slot e h =
    by_place program n slot (unless_earlier-first (fault_within program n) n (fault_at program n) e)
    (unless_earlier-later (fault_within program n) n (fault_at program n) e) h
    (fault_at-none program n slot) (nat_lt slot n) refl
  where
    by_place : (program : Program) (n slot : ℕ) → fault_within program n ≡ None → fault_at program n ≡ None
        → slot < suc n →
        (fault_within program n ≡ None → slot < n → fault_at program slot ≡ None) → (b : Bool) → nat_lt slot n ≡ b
        → fault_at program slot ≡ None
    by_place program n slot first later h go true e = go first (grind (arith, nat_tests))
    by_place program n slot first later h go false e =
        let past : n ≤ slot = grind (arith, nat_tests) in
        let same : slot ≡ n = omega arith in
        ap (fault_at program) same ∙ later

or_else-first : (a b : Option Rule) → or_else a b ≡ None → a ≡ None
or_else-first None b e = refl
or_else-first (Some r) b e = e

-- a test that gives no rule fails
no_rule : (b : Bool) (rule : Rule) (later : Option Rule) → (if b then Some rule else later) ≡ None → b ≡ false
no_rule true rule later e = cc
no_rule false rule later e = refl

-- an instruction that breaks no rule at its slot doesn't jump astray
not_astray : (insns : List Insn) (slot : ℕ) (insn : Insn) → slot_fault insns slot insn ≡ None
    → jumps_astray insns slot insn ≡ false
unfolding slot_fault
not_astray insns slot insn e = no_rule (jumps_astray insns slot insn) JumpTarget _ e

slot_fault-none : (program : Program) (slot : ℕ) (insn : Insn) → fault_of program slot insn (state_before program slot)
    ≡ None → slot_fault program.insns slot insn ≡ None
unfolding fault_of
slot_fault-none program slot insn e = or_else-first (slot_fault program.insns slot insn) _ e

-- then it jumps to a later slot
later_target : (insns : List Insn) (slot target : ℕ) (distance : Option _)
    → (is_some distance && not (leads_later insns slot (jump_target slot distance))) ≡ false →
    jump_target slot distance ≡ Some target → slot < target
later_target insns slot target None e jump_outflow = absurd cc
later_target insns slot target (Some d) e jump_outflow =
    leads (nat_lt slot target) (leads_to insns slot target) refl
    (sym (ap (λ (t : Option ℕ). not (leads_later insns slot t)) jump_outflow) ∙ e)
  where
    leads : (a b : Bool) → nat_lt slot target ≡ a → not (a && b) ≡ false → slot < target
    leads true b e f = grind (arith, nat_tests)
    leads false b e f = cc

-- an instruction is within the slots
pub within : (insns : List Insn) (count slot : ℕ) (insn : Insn) (b : Bool) → nat_lt slot count ≡ b
    → slot_count insns ≡ count → insn_at insns slot ≡ Some insn → slot < count
within insns count slot insn true e counted here = grind (arith, nat_tests)
within insns count slot insn false e counted here =
    let past : count ≤ slot = grind (arith, nat_tests) in
    let none : insn_at insns slot ≡ None = insn_at-end insns slot (omega arith) in
    absurd cc

-- an accepted program jumps forward alone
pub jumps_forward : (program : Program) (count : ℕ) → slot_count program.insns ≡ count → fault_within program count
    ≡ None → JumpsForward program.insns
jumps_forward program count counted fine = record {
  later = λ slot insn target here jump_outflow.
      later_target program.insns slot target (jump_distance insn)
      (not_astray program.insns slot insn (slot_fault-none program slot insn
      (sym (ap (fault_at_insn program slot) here)
      ∙ fault_at-none program count slot fine (within program.insns count slot insn (nat_lt slot count) refl counted
      here))))
      jump_outflow;
}

-- the first fault of a program within the limits
pub first_fault-within : (program : Program) (count : ℕ) → WithinLimits program count
    → first_fault program ≡ fault_within program count
unfolding first_fault
first_fault-within program count has =
    let some : nat_eq (slot_count program.insns) 0 ≡ false = grind (arith, nat_tests, has.counted, has.some) in
    ap (λ (b : Bool). if b then Some (record { rule = NoSlot; slot = 0 }) else if is_too_large program
    then Some (record { rule = OverLimits; slot = 0 }) else fault_within program (slot_count program.insns)) some
    ∙ ap (λ (b : Bool). if b then Some (record { rule = OverLimits; slot = 0 })
    else fault_within program (slot_count program.insns)) has.small
    ∙ ap (fault_within program) has.counted

-- a program is its sizes and its instructions
pub program-is : (program : Program) (sizes : List ℕ) (insns : List Insn) → sizes ≡ program.sizes
    → insns ≡ program.insns →
    record { sizes = sizes; insns = insns } ≡ program
program-is program sizes insns e f =
    ap (λ (l : List ℕ). record { sizes = l; insns = insns }) e
    ∙ ap (λ (l : List Insn). record { sizes = program.sizes; insns = l }) f

-- the sizes of a program within the limits are within them
pub sizes-fit : (sizes : List ℕ) (count : ℕ) → (nat_lt 4096 count || not (sizes_fit sizes)) ≡ false → AreSizes sizes
sizes-fit sizes count e = by_tests (nat_lt 4096 count) (sizes_fit sizes) e
  where
    by_tests : (a b : Bool) → (a || not b) ≡ false → b ≡ true
    by_tests true b e = cc
    by_tests false true e = refl
    by_tests false false e = cc
