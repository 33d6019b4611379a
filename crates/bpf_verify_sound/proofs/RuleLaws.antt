-- An accepted program keeps each rule at each slot.
use Rattle.bpf_insn_types.specs.{Limits.{sizes_fit}, Program.{Program, insn_at, slot_count, function_of}}
use Rattle.bpf_insn_types.specs.{Slots.{slots_of}, Values.{InsnFits, AreInsns}, declared.insn.Insn.{Insn}}
use Rattle.bpf_verify_model.proofs.JumpLaws.{fault_at-none, within}
use Rattle.bpf_verify_model.specs.{Accepted.{fault_at_insn, fault_within, first_fault, Accepted}, Inflow.{state_before}}
use Rattle.bpf_verify_model.specs.Rules.{callback_fault, exit_fault, state_fault, insn_fault, slot_fault, fault_of}
use Rattle.bpf_verify_model.specs.declared.state.State.{State}
use Rattle.bpf_verify_sound.{proofs.Tests.{later-some}, specs.{KnownStates.{IsWellFormedState}, Standing.{KeepsRules}}}
use Rattle.std.proofs.Common.{arith, ◌≡◌, ℕ, zero, suc, ◌-◌, true, List, [], ◌∷◌, Some, None, refl, sym, ap, ◌∙◌, subst}
use Rattle.std.{proofs.lemmas.Bool.Decides.{nat_tests}, specs.Prelude.{nat_lt}}

-- where no rule gave a fault, none of a kind did
pub record HasNoFault (program : Program) (slot : ℕ) (insn : Insn) (state : State) : Type 0 where
  pub of_slot : slot_fault program.insns slot insn ≡ None
  pub of_insn : insn_fault program.sizes insn ≡ None
  pub of_state : state_fault program.sizes state insn ≡ None
  pub callback : callback_fault (function_of program.insns slot) insn ≡ None
  pub end : exit_fault (function_of program.insns slot) state insn ≡ None

no-fault : (program : Program) (slot : ℕ) (insn : Insn) (state : State) → fault_of program slot insn (Some state) ≡ None
    → HasNoFault program slot insn state
unfolding fault_of
no-fault program slot insn state e = record {
  of_slot = grind (arith, nat_tests);
  of_insn = grind (arith, nat_tests);
  of_state = grind (arith, nat_tests);
  callback = grind (arith, nat_tests);
  end = grind (arith, nat_tests);
}

-- so each is kept: V3 to V6 of the slot, V7 to V11 of the instruction, and V12 to V22
pub fault_of-none : (program : Program) (slot : ℕ) (insn : Insn) (state : State)
    → fault_of program slot insn (Some state) ≡ None →
    insn_at program.insns slot ≡ Some insn → sizes_fit program.sizes ≡ true → InsnFits insn → IsWellFormedState state
    → KeepsRules program slot insn state
unfolding slot_fault insn_fault state_fault
fault_of-none program slot insn state e here sizes fits spans =
    let none = no-fault program slot insn state e in
    let slot_none : slot_fault program.insns slot insn ≡ None = none.of_slot in
    let insn_none : insn_fault program.sizes insn ≡ None = none.of_insn in
    let state_none : state_fault program.sizes state insn ≡ None = none.of_state in
    record {
      here = here;
      sizes = sizes;
      fits = fits;
      spans = spans;
      astray = grind (arith, nat_tests);
      falls = grind (arith, nat_tests);
      named = grind (arith, nat_tests);
      helper = grind (arith, nat_tests);
      call_kind = grind (arith, nat_tests);
      load_kind = grind (arith, nat_tests);
      map_there = grind (arith, nat_tests);
      frame_pointer = grind (arith, nat_tests);
      reads = grind (arith, nat_tests);
      arithmetic = grind (arith, nat_tests);
      comparison = grind (arith, nat_tests);
      stored = grind (arith, nat_tests);
      access = grind (arith, nat_tests);
      call = grind (arith, nat_tests);
      callback = none.callback;
      end = none.end;
    }

-- an accepted program has no fault at any slot, and its sizes are within the limits
pub accepted-within : (program : Program) → Accepted program → fault_within program (slot_count program.insns) ≡ None
unfolding first_fault
accepted-within program e = grind (arith, nat_tests)

pub accepted-sizes : (program : Program) → Accepted program → sizes_fit program.sizes ≡ true
unfolding first_fault
accepted-sizes program e = grind (arith, nat_tests)

pub accepted-at : (program : Program) (slot : ℕ) (insn : Insn) → Accepted program → insn_at program.insns slot
    ≡ Some insn →
    fault_of program slot insn (state_before program slot) ≡ None
accepted-at program slot insn accepted here =
    sym (ap (fault_at_insn program slot) here)
    ∙ fault_at-none program (slot_count program.insns) slot (accepted-within program accepted)
    (within program.insns (slot_count program.insns) slot insn (nat_lt slot (slot_count program.insns)) refl refl here)

-- an instruction of a program that fits does
pub fits_at : (insns : List Insn) (slot : ℕ) (insn : Insn) → AreInsns insns → insn_at insns slot ≡ Some insn
    → InsnFits insn
fits_at [] slot insn fits here = absurd cc
fits_at (x ∷ xs) zero insn fits here =
    let e : x ≡ insn = cc in
    subst InsnFits e fits.0
fits_at (x ∷ xs) (suc slot) insn fits here =
    fits_at xs (suc slot - slots_of x) insn fits.1 (later-some (nat_lt (suc slot) (slots_of x)) insn _ here).1
