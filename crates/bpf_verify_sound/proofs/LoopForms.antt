-- A loop call goes on within the abstract states, and so do its iterations start.
use Rattle.bpf_insn_types.specs.{Program.{Program, insn_at, function_of}, WordBounds.{ResultsFit}, Words.{word_of, alu}}
use Rattle.bpf_insn_types.specs.declared.insn.{AluOp.TheVariants.{Mov}, Width.TheVariants.{W32, W64}}
use Rattle.bpf_step_model.specs.{LoopCalls.{Validity, RefusedAs, Valid, call_validity}, SoundMachine.{SoundValue}}
use Rattle.bpf_step_model.specs.State.{Value, Unwritten, Word, Frame, Code, Bytes, Machine, register, ctx_value}
use Rattle.bpf_step_model.specs.{State.{fresh_frame, callback_entry}, Step.{loops, loop_call_step, takes_ctx}}
use Rattle.bpf_verify_model.specs.Flow.{known_after_call, most_iterations, known_index, known_ctx, known_callback_entry}
use Rattle.bpf_verify_model.specs.{Flow.{enters, edge_to}, Rules.{is_code, is_ctx_argument, helper_fault}}
use Rattle.bpf_verify_model.specs.{States.{known_register}, Values.{is_number_value}, Written.{none_written}}
use Rattle.bpf_verify_model.specs.declared.abstract_value.AbstractValue.{AbstractValue}
use Rattle.bpf_verify_model.specs.declared.{helper.Helper.TheVariants.{Loop}, outflow.Outflow.{Outflow}}
use Rattle.bpf_verify_model.specs.declared.state.State.{State}
use Rattle.bpf_verify_sound.proofs.{Moves.{call-goes, MayGoOn}, NumberLaws.{span-has}}
use Rattle.bpf_verify_sound.proofs.{Operands.{register-known, register-span, number-word_of}, RegisterLaws.{all-at}}
use Rattle.bpf_verify_sound.proofs.StartLaws.{start-later, start-stands}
use Rattle.bpf_verify_sound.proofs.StepCases.{refused-word, valid-few, valid-low}
use Rattle.bpf_verify_sound.specs.{Containment.{ContainsValue, AreWritten, Contained}, KnownStates.{HasSpan}}
use Rattle.bpf_verify_sound.specs.Ways.{StepFlows}
use Rattle.std.proofs.Common.{◌≡◌, ℕ, zero, suc, ◌+◌, ◌-◌, ◌%◌, ◌^◌, ◌<◌, ◌≤◌, inr, true, false, replicate, Option}
use Rattle.std.proofs.{Common.{Some, None, is_some, refl, sym, ap, ◌∙◌, subst, arith}, lemmas.Bool.Decides.{nat_tests}}
use Rattle.std.specs.Prelude.{nat_lt, ◌==◌}
use Rattle.value_range.proofs.{Multiples.{multiple-zero}, SpanLaws.{norm-contains, top-contains, exact-contains}}
use Rattle.value_range.specs.{AluRows.{span_of}, Spans.{Contains, top}}
use Rattle.value_range.specs.declared.operation.Operation.TheVariants.{Alu as AluOperation}
use Rattle.bpf_verify_model.specs.declared.abstract_value.AbstractValue.TheVariants as known

-- a fresh frame has no byte that is known to be written
fresh-written : (count : ℕ) → AreWritten (replicate count false) (replicate count None)
fresh-written zero = tt
fresh-written (suc count) = (tt, fresh-written count)

pub fresh-known : AreWritten none_written fresh_frame
unfolding none_written
fresh-known = fresh-written 512

-- an index below the number of iterations
index-known : ResultsFit → (x : AbstractValue) (count index : ℕ) → HasSpan x → ContainsValue x (Word count)
    → is_number_value x ≡ true → count % 2 ^ 32 ≤ 8388608 → index < count % 2 ^ 32 →
    ContainsValue (known_index x) (Word index)
unfolding alu
index-known fit (known.Number a) count index i c some few h =
    let low : Contains (span_of (AluOperation Mov) W32 a a) (count % 2 ^ 32) =
    span-has fit (AluOperation Mov) W32 a a i i count count c c in
    let most : count % 2 ^ 32 ≤ (span_of (AluOperation Mov) W32 a a).hi = low.below in
    norm-contains 0 (most_iterations a - 1) 0 index (omega arith) (omega arith) (multiple-zero index)
index-known fit x count index i c some few h = absurd cc

-- ctx
abbrev pub IsCtxOf : AbstractValue → Option ℕ → Type 0
IsCtxOf x ctx = ContainsValue (known_ctx x) (ctx_value ctx)

-- a callback starts there, at a later slot
abbrev pub BehindMain : Program → ℕ → ℕ → Type 0
BehindMain program slot start = (slot < start) × (is_some (insn_at program.insns start) ≡ true)

-- what a loop call's edges out are
abbrev pub loop_out : ℕ → State → AbstractValue → Outflow
loop_out slot state y = record {
  ahead = edge_to (Some (slot + 1))
      (Some (known_after_call state (known.Number (top W64))));
  aside = enters state y;
}

-- the second argument
code-start : (y : AbstractValue) (w : Value) → is_code y ≡ true → ContainsValue y w
    → (start : ℕ) × (y ≡ known.Code start) × (w ≡ Code start)
code-start (known.Code s) (Code start) e c = (start, ap known.Code c, refl)
code-start (known.Code s) w e c = absurd c
code-start y w e c = absurd cc

none-there : (caller : Option Bytes) → is_some caller ≡ false → caller ≡ None
none-there None e = refl
none-there (Some frame) e = absurd cc

module _ (fit : ResultsFit) {program : Program} {m : Machine} {state : State} (g : MayGoOn program m state) where
  module _ (start count flags : ℕ) (later : BehindMain program m.slot start) (at : register m 1 ≡ Word count)
      (some : is_number_value (known_register state 1) ≡ true) where
    -- a callback's start
    entry-known : (n index : ℕ) (ctx : Option ℕ) → IsCtxOf (known_register state 3) ctx → n ≡ count % 2 ^ 32
        → n ≤ 8388608 → index < n → Contained (known_callback_entry state) (callback_entry (record {
          slot = m.slot;
          callback = start;
          n = n;
          ctx = ctx;
          frame = m.frame;
        }) index)
    unfolding known_callback_entry
    entry-known n index ctx is low few h = record {
      registers = (
        tt,
        (
          index-known fit (known_register state 1) count index (register-span state 1 g.spans)
              (subst (ContainsValue (known_register state 1)) at (register-known state m 1 g.contained)) some
              (omega arith) (omega arith),
          (is, (tt, (tt, (tt, (tt, (tt, (tt, (tt, (refl, tt))))))))),
        ),
      );
      own = fresh-known;
      caller = g.contained.own;
    }

    valid-flow : (ctx : Option ℕ) → IsCtxOf (known_register state 3) ctx → (validity : Validity)
        → call_validity count flags ≡ validity
        → StepFlows program m.slot (loop_out m.slot state (known.Code start)) (loop_call_step m start ctx validity)
    valid-flow ctx is (RefusedAs call) e =
        call-goes g (enters state (known.Code start)) (known.Number (top W64)) (Word (word_of call.answer))
        (top-contains W64 (word_of call.answer) (refused-word count flags call e))
    valid-flow ctx is (Valid n) e = (
      λ index h. record {
        stands = later.1;
        later = later.0;
        flows = inr (
          refl,
          entry-known n index ctx is (valid-low count flags n e) (valid-few count flags n e) h,
        );
      },
      λ answer h. call-goes g (enters state (known.Code start)) (known.Number (top W64)) (Word answer)
          (top-contains W64 answer h),
    )

    -- the third argument
    ctx-flow : (x : AbstractValue) (v : Value) → known_register state 3 ≡ x → is_ctx_argument x ≡ true
        → ContainsValue x v
        → StepFlows program m.slot (loop_out m.slot state (known.Code start)) (takes_ctx m count start flags v)
    ctx-flow (known.Frame p) (Frame q) there ctx d =
        valid-flow (Some q) (subst (λ (x : AbstractValue). IsCtxOf x (Some q)) (sym there) d) _ refl
    ctx-flow (known.Number a) (Word n) there ctx d =
        let least : a.hi ≡ 0 = grind (arith, nat_tests) in
        let zero_is : n ≡ 0 = omega (arith, d.below) in
        let null : (n == 0) ≡ true = grind (arith, nat_tests) in
        rw null (valid-flow None (subst (λ (x : AbstractValue). IsCtxOf x None) (sym there) (exact-contains 0)) _ refl)
    ctx-flow (known.Frame p) v there ctx d = absurd d
    ctx-flow (known.Number a) v there ctx d = absurd d
    ctx-flow x v there ctx d = absurd cc

  from-arguments : (start count flags : ℕ) → function_of program.insns m.slot ≡ 0 → SoundValue program (register m 2)
      → m.caller ≡ None → known_register state 2 ≡ known.Code start → register m 1 ≡ Word count
      → register m 2 ≡ Code start → register m 4 ≡ Word flags → is_number_value (known_register state 1) ≡ true
      → is_ctx_argument (known_register state 3) ≡ true
      → StepFlows program m.slot (loop_out m.slot state (known_register state 2)) (loops m m.caller)
  from-arguments start count flags main sound outer code first second fourth number ctx =
      let starts : SoundValue program (Code start) = subst (SoundValue program) second sound in
      let later : BehindMain program m.slot start =
      (start-later program.insns m.slot start starts main, start-stands program.insns start starts) in
      subst (λ (caller : Option Bytes). StepFlows program m.slot (loop_out m.slot state (known_register state 2))
      (loops m caller)) (sym outer) (rw (code, first, second, fourth) (ctx-flow start count flags later first number
      (known_register state 3) (register m 3) refl ctx (register-known state m 3 g.contained)))

  pub loop-flows : function_of program.insns m.slot ≡ 0 → helper_fault state (Some Loop) ≡ None
      → StepFlows program m.slot (loop_out m.slot state (known_register state 2)) (loops m m.caller)
  loop-flows main e =
      let number : is_number_value (known_register state 1) ≡ true = grind (arith, nat_tests) in
      let code : is_code (known_register state 2) ≡ true = grind (arith, nat_tests) in
      let ctx : is_ctx_argument (known_register state 3) ≡ true = grind (arith, nat_tests) in
      let word : is_number_value (known_register state 4) ≡ true = grind (arith, nat_tests) in
      let outer : m.caller ≡ None = none-there m.caller (g.sound.in_callback ∙ ap (nat_lt 0) main) in
      let count = number-word_of (known_register state 1) (register m 1) number (register-known state m 1 g.contained)
      in
      let at = code-start (known_register state 2) (register m 2) code (register-known state m 2 g.contained) in
      let flags = number-word_of (known_register state 4) (register m 4) word (register-known state m 4 g.contained) in
      from-arguments at.0 count.0 flags.0 main (all-at (SoundValue program) m.registers 2 Unwritten
      g.sound.values tt) outer at.1 count.1 at.2 flags.1 number ctx
