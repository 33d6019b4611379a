-- A machine that goes on: after an instruction, with a register set, at a jump's target, or after a call.
use Rattle.bpf_insn_types.specs.{Program.{Program, leads_to}, Slots.{slots_of}, declared.insn.Insn.{Insn}}
use Rattle.bpf_step_model.specs.{Run.{after_request}, SoundMachine.{SoundMachine}}
use Rattle.bpf_step_model.specs.State.{Value, Machine, advanced, at_slot, with_register, Unwritten, after_call}
use Rattle.bpf_step_model.specs.Step.{StepOutcome, NoStep, Next, Asks, Loops, Refuses, Exits, sets, jumps}
use Rattle.bpf_step_model.specs.Step.{within_function, Request, Load}
use Rattle.bpf_verify_model.specs.Flow.{with_known_result, edge_to, ahead_outflow, forgets, known_after_call}
use Rattle.bpf_verify_model.specs.{Rules.{leads_later, goes_on, falls_off}, States.{with_known}}
use Rattle.bpf_verify_model.specs.declared.{abstract_value.AbstractValue.{AbstractValue}, outflow.Edge.{Edge}}
use Rattle.bpf_verify_model.specs.declared.{outflow.Outflow.{Outflow}, state.State.{State}}
use Rattle.bpf_verify_sound.proofs.{RegisterLaws.{contain-set}, Tests.{and-one, and-two}}
use Rattle.bpf_verify_sound.specs.{Containment.{ContainsValue, Contained, ContainEach}, KnownStates.{IsWellFormedState}}
use Rattle.bpf_verify_sound.specs.{Standing.{KeepsRules}, Ways.{FollowsValue, GoesBy, StepFlows}}
use Rattle.std.proofs.Common.{length, ◌≡◌, ℕ, ◌+◌, ◌<◌, inl, inr, true, false, Option, Some, None, is_none, refl, sym}
use Rattle.std.proofs.{Common.{subst, arith, List, ◌∷◌, ◌++◌, drop, replicate, set}, lemmas.Bool.Decides.{nat_tests}}
use Rattle.std.specs.Prelude.{nat_lt, ◌==◌}

-- V4: where an instruction goes on, one of the same function follows
pub follows-on : (insns : List Insn) (slot : ℕ) (insn : Insn) → goes_on insn ≡ true → falls_off insns slot insn ≡ false
    →
    leads_to insns slot (slot + slots_of insn) ≡ true
follows-on insns slot insn goes e = grind (arith, nat_tests)

-- after an instruction
pub ahead-goes : (program : Program) (slot count : ℕ) (aside : Option Edge) (state : State) (m : Machine) →
    leads_to program.insns slot (slot + count) ≡ true → 0 < count → m.slot ≡ slot + count → Contained state m →
    GoesBy program slot (record { ahead = edge_to (Some (slot + count)) (Some state); aside = aside }) m
ahead-goes program slot count aside state m leads some at c = record {
  same = subst (λ (k : ℕ). leads_to program.insns slot k ≡ true) (sym at) leads;
  later = omega arith;
  flows = inl (sym at, c);
}

-- at another slot, and with a register set
pub slot-contained : (state : State) (m : Machine) (slot : ℕ) → Contained state m → Contained state (at_slot slot m)
slot-contained state m slot c = record { registers = c.registers; own = c.own; caller = c.caller }

pub set-contained : (state : State) (m : Machine) (dst : ℕ) (x : AbstractValue) (v : Value) → Contained state m
    → ContainsValue x v → Contained (with_known state dst x) (with_register dst v m)
set-contained state m dst x v c d =
    record { registers = contain-set state.registers m.registers dst x v c.registers d; own = c.own; caller = c.caller }

pub sets-flows : (program : Program) (m : Machine) (state : State) (count dst : ℕ) (x : Option AbstractValue)
    (v : Option Value) →
    leads_to program.insns m.slot (m.slot + count) ≡ true → 0 < count → (dst == 10) ≡ false → Contained state m
    → is_none x ≡ false → FollowsValue x v →
    StepFlows program m.slot (ahead_outflow (m.slot + count) (with_known_result state dst x)) (sets count m dst v)
sets-flows program m state count dst None v leads more fp c there f = absurd cc
sets-flows program m state count dst (Some x) None leads more fp c there f = absurd f
sets-flows program m state count dst (Some x) (Some v) leads more fp c there f =
    rw fp (ahead-goes program m.slot count None (with_known state dst x) (with_register dst v (advanced count m)) leads
    more refl (set-contained state (advanced count m) dst x v (slot-contained state m (m.slot + count) c) f))

-- a sound machine that the abstract state contains, before an instruction that breaks no rule and isn't the last one of
-- its function
pub record MayGoOn (program : Program) (m : Machine) (state : State) : Type 0 where
  pub leads : leads_to program.insns m.slot (m.slot + 1) ≡ true
  pub contained : Contained state m
  pub spans : IsWellFormedState state
  pub sound : SoundMachine program m

pub may-go_on : {program : Program} {m : Machine} {state : State} {insn : Insn} → KeepsRules program m.slot insn state
    → SoundMachine program m → Contained state m → goes_on insn ≡ true → slots_of insn ≡ 1 → MayGoOn program m state
may-go_on {program} {m} {state} {insn} keeps sound c goes one = record {
  leads = rw one at (follows-on program.insns m.slot insn goes keeps.falls);
  contained = c;
  spans = keeps.spans;
  sound = sound;
}

module _ {program : Program} {m : Machine} {state : State} (g : MayGoOn program m state) where
  pub next-goes : (aside : Option Edge) (known : State) (next : Machine) → next.slot ≡ m.slot + 1 → Contained known next
      → GoesBy program m.slot (record { ahead = edge_to (Some (m.slot + 1)) (Some known); aside = aside }) next
  next-goes aside known next at c = ahead-goes program m.slot 1 aside known next g.leads (omega arith) at c

  -- with nothing changed
  pub same-ahead : GoesBy program m.slot (ahead_outflow (m.slot + 1) state) (advanced 1 m)
  same-ahead = next-goes None state (advanced 1 m) refl (slot-contained state m (m.slot + 1) g.contained)

-- at a jump's target
pub jump-flows : (program : Program) (m : Machine) (state : State) (ahead : Option Edge) (target : Option ℕ) →
    leads_later program.insns m.slot target ≡ true → Contained state m →
    StepFlows program m.slot (record { ahead = ahead; aside = edge_to target (Some state) }) (jumps m target)
jump-flows program m state ahead None leads c = absurd cc
jump-flows program m state ahead (Some target) leads c =
    let later : nat_lt m.slot target ≡ true = and-one (nat_lt m.slot target) _ leads in
    let past : m.slot < target = grind (arith, nat_tests) in
    record {
      same = and-two (nat_lt m.slot target) _ leads;
      later = omega arith;
      flows = inr (refl, slot-contained state m target c);
    }

-- what is told changes no slot
pub after_request-slot : (request : Request) (word : ℕ) (m : Machine) → (after_request request word m).slot ≡ m.slot
after_request-slot (Load part extension into) word m = refl
after_request-slot request word m = refl

-- where the edges out lead, an instruction of the same function starts
pub within_function-flows : (program : Program) (slot : ℕ) (out : Outflow) (move : StepOutcome)
    → StepFlows program slot out move → StepFlows program slot out (within_function program slot move)
within_function-flows program slot out NoStep f = f
within_function-flows program slot out (Next next) f = rw f.same f
within_function-flows program slot out (Asks element request next) f =
    let same : leads_to program.insns slot next.slot ≡ true =
    subst (λ (k : ℕ). leads_to program.insns slot k ≡ true) (after_request-slot request 0 next)
    (f.1 0 (omega arith)).same in
    rw same f
within_function-flows program slot out (Loops call next) f =
    let same : leads_to program.insns slot next.slot ≡ true = (f.1 0 (omega arith)).same in
    rw same f
within_function-flows program slot out (Refuses call next) f = rw f.same f
within_function-flows program slot out (Exits ret) f = f

registers-after : (xs : List AbstractValue) (vs : List Value) (x : AbstractValue) (v : Value) → length xs ≡ 11
    → length vs ≡ 11 → ContainEach xs vs → ContainsValue x v →
    ContainEach (forgets (forgets (forgets (forgets (forgets (set xs 0 x) 1) 2) 3) 4) 5)
    (v ∷ (replicate 5 Unwritten ++ drop 6 vs))
registers-after (x0 ∷ (x1 ∷ (x2 ∷ (x3 ∷ (x4 ∷ (x5 ∷ xs)))))) (v0 ∷ (v1 ∷ (v2 ∷ (v3 ∷ (v4 ∷ (v5 ∷ vs)))))) x v e f c d =
    (d, (tt, (tt, (tt, (tt, (tt, c.1.1.1.1.1.1))))))
registers-after xs vs x v e f c d = absurd (omega arith)

-- main or a callback after a call
pub call-goes : {program : Program} {m : Machine} {state : State} → MayGoOn program m state → (aside : Option Edge)
    (x : AbstractValue) (v : Value) → ContainsValue x v → GoesBy program m.slot
    (record { ahead = edge_to (Some (m.slot + 1)) (Some (known_after_call state x)); aside = aside })
    (after_call v (advanced 1 m))
call-goes {m = m} {state = state} g aside x v d = next-goes g aside (known_after_call state x)
    (after_call v (advanced 1 m)) refl
    (record {
      registers = registers-after state.registers m.registers x v g.spans.count g.sound.count g.contained.registers
          d;
      own = g.contained.own;
      caller = g.contained.caller;
    })
