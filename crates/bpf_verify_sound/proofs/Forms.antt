-- Each instruction that breaks no rule goes on within the abstract states.
use Rattle.bpf_insn_types.specs.Limits.{sizes_fit}
use Rattle.bpf_insn_types.specs.Program.{Program, insn_at, code_target, function_of, moved, leads_to}
use Rattle.bpf_insn_types.specs.{Sizes.{bytes_of}, Values.{OperandFits}, WordBounds.{ResultsFit}}
use Rattle.bpf_insn_types.specs.Words.{word_of, negated, moved_signed, in_order}
use Rattle.bpf_insn_types.specs.declared.{extension.Extension.TheVariants.{Zeros, Signs}, insn.AluOp.{AluOp}}
use Rattle.bpf_insn_types.specs.declared.insn.{Callee.{Callee}, Compare.{Compare}, ImmKind.{ImmKind}}
use Rattle.bpf_insn_types.specs.declared.insn.ImmKind.TheVariants.{Number, Code as CodeKind, Map as MapKind, MapValue}
use Rattle.bpf_insn_types.specs.declared.insn.Insn.{Insn}
use Rattle.bpf_insn_types.specs.declared.insn.Insn.TheVariants.{LoadImm, Exit, Jump, Atomic, Alu, Neg, Movsx, Endian}
use Rattle.bpf_insn_types.specs.declared.insn.Insn.TheVariants.{Ja, Ja32, Call, Load as LoadInsn, LoadSx, StoreImm}
use Rattle.bpf_insn_types.specs.declared.insn.{Insn.TheVariants.{Store as StoreInsn}, Operand.{Operand}, Width.{Width}}
use Rattle.bpf_insn_types.specs.declared.insn.Width.TheVariants.{W64}
use Rattle.bpf_step_model.specs.Memory.{Place, InFrame, InCaller, place, frame_position}
use Rattle.bpf_step_model.specs.SoundMachine.{SoundValue, SoundMachine}
use Rattle.bpf_step_model.specs.State.{Value, Unwritten, Word, Frame, Ctx, Map, Machine, register, Bytes, advanced}
use Rattle.bpf_step_model.specs.Step.{key_at, lookup_result, answers, looks_up, code_named, map_named, area_named}
use Rattle.bpf_step_model.specs.Step.{wide_value, ends_with, ends, sets, branches, jumps, insn_step}
use Rattle.bpf_step_model.specs.Values.{area_address, operand_value, on_word, result_of, comparison_of}
use Rattle.bpf_verify_model.specs.Accesses.{has_unwritten_byte}
use Rattle.bpf_verify_model.specs.Flow.{known_after_call, known_lookup, address_in, edge_to, known_code, known_wide}
use Rattle.bpf_verify_model.specs.Flow.{with_known_result, ahead_outflow, branch_states, branch_outflow, flow}
use Rattle.bpf_verify_model.specs.Flow.{known_behind, number_of_size}
use Rattle.bpf_verify_model.specs.Rules.{is_key_position, is_key, is_map, helper_fault, starts, count_of_map, has_byte}
use Rattle.bpf_verify_model.specs.Rules.{is_bit, end_fault, leads_later, callback_fault, uses_callbacks}
use Rattle.bpf_verify_model.specs.States.{known_register}
use Rattle.bpf_verify_model.specs.Values.{is_number_value, known_operand, known_of_number, known_result, compares}
use Rattle.bpf_verify_model.specs.declared.abstract_value.AbstractValue.{AbstractValue}
use Rattle.bpf_verify_model.specs.declared.{helper.Helper.TheVariants.{Lookup}, outflow.BranchStates.{BranchStates}}
use Rattle.bpf_verify_model.specs.declared.{outflow.{Edge.{Edge}, Outflow.{Outflow}}, rule.Rule.{Rule}}
use Rattle.bpf_verify_model.specs.declared.state.State.{State}
use Rattle.bpf_verify_sound.proofs.{ByteLaws.{IsNumberOf}, LoopForms.{loop-flows}}
use Rattle.bpf_verify_sound.proofs.MemoryForms.{own-number, main-number, load-flows, zeros-known, signs-known}
use Rattle.bpf_verify_sound.proofs.MemoryForms.{store-flows, atomic-flows}
use Rattle.bpf_verify_sound.proofs.Moves.{call-goes, MayGoOn, sets-flows, follows-on, ahead-goes, slot-contained}
use Rattle.bpf_verify_sound.proofs.Moves.{jump-flows, may-go_on}
use Rattle.bpf_verify_sound.proofs.NumberLaws.{WayFollows, compare-follows, number-follows, result-follows}
use Rattle.bpf_verify_sound.proofs.Operands.{register-known, number-word_of, register-span, operand-known}
use Rattle.bpf_verify_sound.proofs.{Operands.{operand-has_span}, PlaceLaws.{count-few, PlaceIs}, RegisterLaws.{all-at}}
use Rattle.bpf_verify_sound.proofs.{StartLaws.{start-there}, Tests.{if-either, not-not-true}}
use Rattle.bpf_verify_sound.specs.{Containment.{ContainsValue, Contained, ContainedIf}, Standing.{KeepsRules}}
use Rattle.bpf_verify_sound.specs.Ways.{FollowsValue, StepFlows, GoesBy}
use Rattle.std.proofs.Common.{◌≡◌, ℕ, ◌+◌, ◌-◌, ◌*◌, ◌%◌, ◌^◌, ◌<◌, ◌≤◌, true, false, List, length, Option, Some, None}
use Rattle.std.proofs.Common.{refl, arith, zero, suc, is_none, ap, Bool, is_some, sym, subst, not}
use Rattle.std.proofs.lemmas.{Bool.Decides.{nat_tests}, Int.{ints}, Option.{slice_get-get_or, slice_get_past}}
use Rattle.std.specs.Int.{cast_unsigned, w32}
use Rattle.std.specs.Prelude.{pos, nat_lt, nat_le, if◌then◌else◌, slice_get, ℤ, negsuc, ◌==◌, FitsSigned}
use Rattle.value_range.{proofs.SpanLaws.{norm-contains, exact-contains}, specs.AluRows.{meant}}
use Rattle.value_range.specs.{Spans.{norm, exact, top}, declared.operation.Operation.{Operation}}
use Rattle.value_range.specs.declared.operation.Operation.TheVariants.{Neg as NegOperation, Movsx as MovsxOperation}
use Rattle.value_range.specs.declared.operation.Operation.TheVariants.{Endian as EndianOperation}
use Rattle.bpf_verify_model.specs.declared.abstract_value.AbstractValue.TheVariants as known
use Rattle.bpf_insn_types.specs.declared.insn.Callee.TheVariants as callee

-- where the key is
key-position : (q : ℕ) → is_key_position q ≡ true → (frame_position (Some (q + 0)) 4 ≡ Some (q + 0)) × (q + 0 + 4 ≤ 512)
key-position q e =
    let goes : frame_position (Some (q + 0)) 4 ≡ Some (q + 0) = grind (arith, nat_tests) in
    let inside : q + 0 + 4 ≤ 512 = grind (arith, nat_tests) in
    (goes, inside)

key-place : (program : Program) (x : AbstractValue) (v : Value) → is_key x ≡ true → ContainsValue x v
    → PlaceIs program.sizes 4 (pos 0) x (place program v (pos 0) 4)
key-place program (known.Frame q) (Frame p) e c = let at = key-position q e in rw (← c, at.0) (refl, at.1)
key-place program (known.Ctx q) (Ctx p) e c = let at = key-position q e in rw (← c, at.0) (refl, at.1)
key-place program (known.Frame q) v e c = absurd c
key-place program (known.Ctx q) v e c = absurd c
key-place program x v e c = absurd cc

-- a value's address is known, or 0
address-follows : (m count key : ℕ) → count ≤ 65536 →
    FollowsValue (Some (known.AreaOrNull m (norm 0 (8 * count - 8) 3)))
    (if nat_lt key count then area_address m (8 * key) else Some (Word 0))
address-follows m count key few =
    if-either (FollowsValue (Some (known.AreaOrNull m (norm 0 (8 * count - 8) 3)))) (nat_lt key count) (λ e.
    let inside : key < count = grind (arith, nat_tests) in
    let small : nat_le (8 * key) 524288 ≡ true = grind (arith, nat_tests) in
    let multiple : 8 * key % 2 ^ 3 ≡ 0 = omega arith in
    rw small (refl, norm-contains 0 (8 * count - 8) 3 (8 * key) (omega arith) (omega arith) multiple)) (λ e. refl)

lookup_result-follows : (sizes : List ℕ) (m : ℕ) (o key : Option ℕ) → sizes_fit sizes ≡ true → slice_get sizes m ≡ o
    → m < length sizes → IsNumberOf 4 key →
    FollowsValue (Some (address_in m o)) (lookup_result m o key)
lookup_result-follows sizes m None key fit there inside number =
    let some : slice_get sizes m ≡ Some _ = slice_get-get_or sizes m 0 inside in
    absurd cc
lookup_result-follows sizes m (Some count) None fit there inside number = absurd number
lookup_result-follows sizes m (Some count) (Some key) fit there inside number =
    address-follows m count key (count-few sizes m count fit there)

module _ {program : Program} {m : Machine} {state : State} (g : MayGoOn program m state) where
  -- the key's bytes are a number
  key-number : (x : AbstractValue) (at : Option Place) → is_key x ≡ true → PlaceIs program.sizes 4 (pos 0) x at
      → has_unwritten_byte state 4 (pos 0) x ≡ false → IsNumberOf 4 (key_at m at)
  key-number (known.Frame q) (Some (InFrame p)) key is e = own-number g q p 4 (pos 0) is.0 is.1 e
  key-number (known.Ctx q) (Some (InCaller p)) key is e = main-number g q p 4 (pos 0) is.0 is.1 e
  key-number (known.Area map range) at key is e = absurd cc
  key-number x at key is e = absurd is

  answers-flow : (aside : Option Edge) (x : AbstractValue) (v : Option Value) → FollowsValue (Some x) v
      → StepFlows program m.slot (record {
        ahead = edge_to (Some (m.slot + 1)) (Some (known_after_call state x));
        aside = aside;
      }) (answers m v)
  answers-flow aside x None f = absurd f
  answers-flow aside x (Some v) f = call-goes g aside x v f

  map-lookup : (aside : Option Edge) (x : AbstractValue) (v : Value) (key : Option ℕ)
      → sizes_fit program.sizes ≡ true → is_map x ≡ true → ContainsValue x v → SoundValue program v → IsNumberOf 4 key
      → StepFlows program m.slot (record {
        ahead = edge_to (Some (m.slot + 1)) (Some (known_after_call state (known_lookup program.sizes x)));
        aside = aside;
      }) (looks_up program m v key)
  map-lookup aside (known.Map k) (Map n) key fit some is sound number =
      rw is (answers-flow aside (address_in n (slice_get program.sizes n)) _
      (lookup_result-follows program.sizes n (slice_get program.sizes n) key fit refl sound number))
  map-lookup aside (known.Map k) v key fit some is sound number = absurd is
  map-lookup aside x v key fit some is sound number = absurd cc

  pub lookup-flows : (aside : Option Edge) → sizes_fit program.sizes ≡ true → helper_fault state (Some Lookup) ≡ None
      → StepFlows program m.slot (record {
        ahead = edge_to (Some (m.slot + 1))
            (Some (known_after_call state (known_lookup program.sizes (known_register state 1))));
        aside = aside;
      }) (looks_up program m (register m 1) (key_at m (place program (register m 2) (pos 0) 4)))
  lookup-flows aside fit e =
      let written : has_unwritten_byte state 4 (pos 0) (known_register state 2) ≡ false = grind (arith, nat_tests) in
      let map_there : is_map (known_register state 1) ≡ true = grind (arith, nat_tests) in
      let key_there : is_key (known_register state 2) ≡ true = grind (arith, nat_tests) in
      map-lookup aside (known_register state 1) (register m 1) _ fit map_there (register-known state m 1 g.contained)
      (all-at (SoundValue program) m.registers 1 Unwritten g.sound.values tt)
      (key-number (known_register state 2) _ key_there
      (key-place program (known_register state 2) (register m 2) key_there (register-known state m 2 g.contained))
      written)

-- a code address
code-follows : (program : Program) (slot : ℕ) (imm next_imm : ℤ) (dst : ℕ) (target : Option ℕ)
    → insn_at program.insns slot ≡ Some (LoadImm CodeKind dst imm next_imm) → code_target CodeKind slot imm ≡ target →
    starts program.insns target ≡ true → FollowsValue (Some (known_code target)) (code_named program.insns target)
code-follows program slot imm next_imm dst None here named there = absurd cc
code-follows program slot imm next_imm dst (Some target) here named there =
    rw (start-there program.insns slot (LoadImm CodeKind dst imm next_imm) target here named there) refl

-- a map
slice_get-inside : {A : Type 0} (xs : List A) (i : ℕ) → is_none (slice_get xs i) ≡ false → i < length xs
slice_get-inside xs i e = grind (arith, nat_tests, slice_get_past xs i)

same-number : (n : ℕ) → FitsSigned w32 (pos n) → cast_unsigned w32 (pos n) ≡ n
same-number n fits = omega (arith, ints)

map-follows : (program : Program) (imm : ℤ) → FitsSigned w32 imm → is_none (count_of_map program.sizes imm) ≡ false
    → FollowsValue (Some (known.Map (cast_unsigned w32 imm))) (map_named program.sizes imm)
map-follows program (negsuc n) fits e = absurd cc
map-follows program (pos n) fits e =
    let inside : n < length program.sizes = slice_get-inside program.sizes n e in
    let test : nat_lt n (length program.sizes) ≡ true = grind (arith, nat_tests) in
    rw test (same-number n fits)

-- a byte of a map's values
value-follows : (program : Program) (imm next_imm : ℤ) → sizes_fit program.sizes ≡ true → FitsSigned w32 imm
    → FitsSigned w32 next_imm → has_byte (count_of_map program.sizes imm) next_imm ≡ true →
    FollowsValue (Some (known.Area (cast_unsigned w32 imm) (exact (cast_unsigned w32 next_imm))))
    (area_named (map_named program.sizes imm) next_imm)
value-follows program (negsuc n) next_imm fit fits fits' e = absurd cc
value-follows program (pos n) next_imm fit fits fits' e =
    by_count next_imm fits' (slice_get program.sizes n) refl e
  where
    by_count : (next_imm : ℤ) → FitsSigned w32 next_imm → (count : Option ℕ) → slice_get program.sizes n ≡ count
        → has_byte count next_imm ≡ true →
        FollowsValue (Some (known.Area (cast_unsigned w32 (pos n)) (exact (cast_unsigned w32 next_imm))))
        (area_named (map_named program.sizes (pos n)) next_imm)
    by_count next_imm fits' None there e = absurd cc
    by_count (negsuc k) fits' (Some count) there e = absurd cc
    by_count (pos offset) fits' (Some count) there e =
        let inside : n < length program.sizes = slice_get-inside program.sizes n (ap is_none there) in
        let test : nat_lt n (length program.sizes) ≡ true = grind (arith, nat_tests) in
        let within : offset < 8 * count = grind (arith, nat_tests) in
        let few : count ≤ 65536 = count-few program.sizes n count fit there in
        let small : offset ≤ 524288 = omega arith in
        let test' : nat_le offset 524288 ≡ true = grind (arith, nat_tests) in
        rw (test, test') (same-number n fits, rw (same-number offset fits') (exact-contains offset))

-- each kind that breaks no rule
pub wide-follows : (program : Program) (slot : ℕ) (kind : ImmKind) (dst : ℕ) (imm next_imm : ℤ) (state : State)
    → KeepsRules program slot (LoadImm kind dst imm next_imm) state →
    FollowsValue (Some (known_wide slot kind imm next_imm)) (wide_value program slot kind imm next_imm)
wide-follows program slot Number dst imm next_imm state keeps =
    exact-contains (cast_unsigned w32 imm + 2 ^ 32 * cast_unsigned w32 next_imm)
wide-follows program slot CodeKind dst imm next_imm state keeps =
    code-follows program slot imm next_imm dst (code_target CodeKind slot imm) keeps.here refl
    (not-not-true (starts program.insns (code_target CodeKind slot imm)) keeps.named)
wide-follows program slot MapKind dst imm next_imm state keeps = map-follows program imm keeps.fits.1 keeps.map_there
wide-follows program slot MapValue dst imm next_imm state keeps =
    value-follows program imm next_imm keeps.sizes keeps.fits.1 keeps.fits.2
    (not-not-true (has_byte (count_of_map program.sizes imm) next_imm) keeps.map_there)
wide-follows program slot kind dst imm next_imm state keeps = absurd (let e = keeps.load_kind in cc)

kept : (test : Bool) (rule : Rule) → (if test then None else Some rule) ≡ None → test ≡ true
kept true rule e = refl
kept false rule e = absurd cc

end-number : (function : ℕ) (x : AbstractValue) → end_fault function x ≡ None → is_number_value x ≡ true
end-number zero x e = grind (arith, nat_tests)
end-number (suc f) x e = grind (arith, nat_tests)

bit-small : (x : AbstractValue) (n : ℕ) → is_bit x ≡ true → ContainsValue x (Word n) → n ≤ 1
bit-small x n e c = grind (arith, nat_tests)

word-ends : (program : Program) (slot : ℕ) (out : Outflow) (function : ℕ) (x : AbstractValue) (n : ℕ)
    (caller : Option Bytes) → is_some caller ≡ nat_lt 0 function → end_fault function x ≡ None →
    ContainsValue x (Word n) → StepFlows program slot out (ends_with caller n)
word-ends program slot out function x n None there e c = tt
word-ends program slot out zero x n (Some frame) there e c = absurd cc
word-ends program slot out (suc f) x n (Some frame) there e c =
    let small : n ≤ 1 = bit-small x n (kept (is_bit x) _ e) c in
    let test : nat_le n 1 ≡ true = grind (arith, nat_tests) in
    rw test tt

pub exit-flows : (program : Program) (m : Machine) (state : State) (out : Outflow)
    → KeepsRules program m.slot Exit state
    → SoundMachine program m → Contained state m → StepFlows program m.slot out (ends m (register m 0))
exit-flows program m state out keeps sound c =
    let function = function_of program.insns m.slot in
    let x = known_register state 0 in
    let known_word = register-known state m 0 c in
    let word = number-word_of x (register m 0) (end-number function x keeps.end) known_word in
    subst (λ (v : Value). StepFlows program m.slot out (ends m v)) (sym word.1)
    (word-ends program m.slot out function x word.0 m.caller sound.in_callback keeps.end
    (subst (ContainsValue x) word.1 known_word))

number-there : (operation : Operation) (width : Width) (x : AbstractValue) → not (is_number_value x) ≡ false
    → is_none (known_of_number operation width x) ≡ false
number-there operation width (known.Number a) e = refl
number-there operation width x e = absurd cc

module _ {program : Program} {m : Machine} {state : State} (fit : ResultsFit) (g : MayGoOn program m state) where
  pub alu-flows : (width : Width) (op : AluOp) (dst : ℕ) (operand : Operand) → (dst == 10) ≡ false → OperandFits operand
      → is_none (known_result width op (known_register state dst) (known_operand state operand)) ≡ false
      → StepFlows program m.slot (ahead_outflow (m.slot + 1) (with_known_result state dst
      (known_result width op (known_register state dst) (known_operand state operand))))
      (sets 1 m dst (result_of width op (register m dst) (operand_value m operand)))
  alu-flows width op dst operand fp fits some =
      sets-flows program m state 1 dst _ _ g.leads (omega arith) fp g.contained some
      (result-follows fit width op (known_register state dst) (known_operand state operand) (register m dst)
      (operand_value m operand) (register-span state dst g.spans) (operand-has_span state operand fits g.spans)
      (register-known state m dst g.contained) (operand-known state m operand g.contained))

  -- an operation on one number
  pub one-flows : (operation : Operation) (width : Width) (f : ℕ → ℕ) (dst r : ℕ)
      → ((n : ℕ) → meant operation width n n ≡ f n) → (dst == 10) ≡ false
      → not (is_number_value (known_register state r)) ≡ false
      → StepFlows program m.slot (ahead_outflow (m.slot + 1) (with_known_result state dst
      (known_of_number operation width (known_register state r)))) (sets 1 m dst (on_word f (register m r)))
  one-flows operation width f dst r is fp some =
      sets-flows program m state 1 dst _ _ g.leads (omega arith) fp g.contained
      (number-there operation width (known_register state r) some)
      (number-follows fit operation width f is (known_register state r) (register m r) (register-span state r g.spans)
      (register-known state m r g.contained))

-- either way
aside-flows : (program : Program) (m : Machine) (ahead : Option _) (target : Option ℕ) (holds : Option State)
    → leads_later program.insns m.slot target ≡ true → ContainedIf holds m →
    StepFlows program m.slot (record { ahead = ahead; aside = edge_to target holds }) (jumps m target)
aside-flows program m ahead target None leads c = absurd c
aside-flows program m ahead target (Some state) leads c = jump-flows program m state ahead target leads c

behind-flows : (program : Program) (m : Machine) (aside : Option _) (fails : Option State)
    → leads_to program.insns m.slot (m.slot + 1) ≡ true → ContainedIf fails m →
    GoesBy program m.slot (record { ahead = edge_to (Some (m.slot + 1)) fails; aside = aside }) (advanced 1 m)
behind-flows program m aside None leads c = absurd c
behind-flows program m aside (Some state) leads c =
    ahead-goes program m.slot 1 aside state (advanced 1 m) leads (omega arith) refl
    (slot-contained state m (m.slot + 1) c)

branch-flows : (program : Program) (m : Machine) (offset : ℤ) (ways : BranchStates) (test : Option Bool)
    → leads_to program.insns m.slot (m.slot + 1) ≡ true →
    leads_later program.insns m.slot (moved (m.slot + 1) offset) ≡ true → WayFollows ways test m →
    StepFlows program m.slot (branch_outflow m.slot offset ways) (branches m offset test)
branch-flows program m offset ways None ahead aside f = absurd f
branch-flows program m offset ways (Some true) ahead aside f =
    aside-flows program m (edge_to (Some (m.slot + 1)) ways.fails) (moved (m.slot + 1) offset) ways.holds aside f
branch-flows program m offset ways (Some false) ahead aside f =
    behind-flows program m (edge_to (moved (m.slot + 1) offset) ways.holds) ways.fails ahead f

pub branch-known : (program : Program) (m : Machine) (state : State) (width : Width) (compare : Compare) (dst : ℕ)
    (operand : Operand) (offset : ℤ) →
    KeepsRules program m.slot (Jump width compare dst operand offset) state → Contained state m
    → StepFlows program m.slot
    (branch_outflow m.slot offset (branch_states state width compare dst operand (known_register state dst)))
    (branches m offset (comparison_of m width compare (register m dst) operand))
branch-known program m state width compare dst operand offset keeps c =
    branch-flows program m offset (branch_states state width compare dst operand (known_register state dst)) _
    (follows-on program.insns m.slot (Jump width compare dst operand offset) refl keeps.falls)
    (not-not-true (leads_later program.insns m.slot (moved (m.slot + 1) offset)) keeps.astray)
    (compare-follows c width compare dst operand (known_register state dst) (register m dst) keeps.spans
    (register-span state dst keeps.spans) keeps.fits.1 refl (register-known state m dst c)
    (not-not-true (compares state width compare operand (known_register state dst)) keeps.comparison))

-- main alone calls loops
main-alone : (function : ℕ) (insn : Insn) → uses_callbacks insn ≡ true → callback_fault function insn ≡ None
    → function ≡ 0
main-alone zero insn uses e = refl
main-alone (suc f) insn uses e = absurd (let t = rw uses at e in cc)

-- helpers 1 and 181
call-flows : ResultsFit → (program : Program) (m : Machine) (state : State) (kind : Callee) (imm : ℤ)
    → KeepsRules program m.slot (Call kind imm) state → MayGoOn program m state →
    StepFlows program m.slot (flow program.sizes m.slot state (Call kind imm)) (insn_step program m (Call kind imm))
unfolding flow known_behind
call-flows fit program m state callee.Helper (pos number) keeps g = by_number (number == 1) (number == 181) refl refl
  where
    insn : Insn
    insn = Call callee.Helper (pos number)

    by_number : (lookup loop : Bool) → (number == 1) ≡ lookup → (number == 181) ≡ loop →
        StepFlows program m.slot (flow program.sizes m.slot state insn) (insn_step program m insn)
    by_number true loop e f = rw e (lookup-flows g None keeps.sizes (rw e at keeps.call))
    by_number false true e f = rw (e, f) (loop-flows fit g (main-alone (function_of program.insns m.slot) insn
        (rw (e, f) refl) keeps.callback) (rw (e, f) at keeps.call))
    by_number false false e f = absurd (let t = rw (e, f) at keeps.helper in cc)
call-flows fit program m state callee.Helper (negsuc number) keeps g = absurd (let e = keeps.helper in cc)
call-flows fit program m state kind imm keeps g = absurd (let e = keeps.call_kind in cc)

pub insn_step-flow : ResultsFit → (program : Program) (m : Machine) (state : State) (insn : Insn)
    → KeepsRules program m.slot insn state → SoundMachine program m → Contained state m →
    StepFlows program m.slot (flow program.sizes m.slot state insn) (insn_step program m insn)
unfolding flow known_behind
insn_step-flow fit program m state (Alu width op dst operand) keeps sound c =
    alu-flows fit (may-go_on keeps sound c refl refl) width op dst operand keeps.frame_pointer keeps.fits.1
    keeps.arithmetic
insn_step-flow fit program m state (Neg width dst) keeps sound c =
    one-flows fit (may-go_on keeps sound c refl refl) NegOperation width (negated width) dst dst (λ n. refl)
    keeps.frame_pointer keeps.arithmetic
insn_step-flow fit program m state (Movsx width bits dst src) keeps sound c =
    one-flows fit (may-go_on keeps sound c refl refl) (MovsxOperation bits) width (moved_signed width bits) dst src
    (λ n. refl) keeps.frame_pointer keeps.arithmetic
insn_step-flow fit program m state (Endian order bits dst) keeps sound c =
    one-flows fit (may-go_on keeps sound c refl refl) (EndianOperation order bits) W64 (in_order order bits) dst dst
    (λ n. refl) keeps.frame_pointer keeps.arithmetic
insn_step-flow fit program m state (Ja offset) keeps sound c =
    jump-flows program m state None (moved (m.slot + 1) offset) (not-not-true _ keeps.astray) c
insn_step-flow fit program m state (Ja32 imm) keeps sound c =
    jump-flows program m state None (moved (m.slot + 1) imm) (not-not-true _ keeps.astray) c
insn_step-flow fit program m state (Jump width compare dst operand offset) keeps sound c =
    branch-known program m state width compare dst operand offset keeps c
insn_step-flow fit program m state (Call kind imm) keeps sound c =
    call-flows fit program m state kind imm keeps (may-go_on keeps sound c refl refl)
insn_step-flow fit program m state Exit keeps sound c =
    exit-flows program m state (record { ahead = None; aside = None }) keeps sound c
insn_step-flow fit program m state (LoadInsn size dst src offset) keeps sound c =
    load-flows (may-go_on keeps sound c refl refl) Zeros dst (bytes_of size) (number_of_size size) keeps.frame_pointer
    (zeros-known size) src offset keeps.access
insn_step-flow fit program m state (LoadSx size dst src offset) keeps sound c =
    load-flows (may-go_on keeps sound c refl refl) Signs dst (bytes_of size) (known.Number (top W64))
    keeps.frame_pointer (signs-known size) src offset keeps.access
insn_step-flow fit program m state (StoreImm size dst offset imm) keeps sound c =
    store-flows (may-go_on keeps sound c refl refl) (bytes_of size) dst offset (known.Number (exact (word_of imm)))
    (Word (word_of imm)) refl (exact-contains (word_of imm)) keeps.access
insn_step-flow fit program m state (StoreInsn size dst src offset) keeps sound c =
    store-flows (may-go_on keeps sound c refl refl) (bytes_of size) dst offset (known_register state src)
    (register m src) (not-not-true _ keeps.stored) (register-known state m src c) keeps.access
insn_step-flow fit program m state (Atomic width op dst src offset) keeps sound c =
    atomic-flows (may-go_on keeps sound c refl refl) width op dst src offset keeps
insn_step-flow fit program m state (LoadImm kind dst imm next_imm) keeps sound c =
    sets-flows program m state 2 dst (Some (known_wide m.slot kind imm next_imm)) _
    (follows-on program.insns m.slot (LoadImm kind dst imm next_imm) refl keeps.falls) (omega arith) keeps.frame_pointer
    c refl (wide-follows program m.slot kind dst imm next_imm state keeps)
