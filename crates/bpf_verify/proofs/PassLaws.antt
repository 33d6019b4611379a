-- A pass over a program's slots, step by step.
use Rattle.std.proofs.Common.{◌≡◌, ℕ, zero, suc, ◌+◌, ◌-◌, ◌<◌, ◌≤◌, Bool, true, false, List, [], ◌∷◌, ◌++◌, length}
use Rattle.std.proofs.Common.{get_or, refl, ap, sym, ◌∙◌, subst, arith, add-one, Option, Some, None, is_some, take}
use Rattle.std.{specs.Prelude.{nat_lt}, proofs.lemmas.Bool.Decides.{nat_tests}}
use Rattle.bpf_insn_types.specs.{Slots.{slots_of}, declared.insn.Insn.{Insn}}
use Rattle.bpf_insn_types.specs.Program.{Program, insn_at, slot_count, named_by, function_of}
use Rattle.bpf_insn_types.proofs.ProgramLaws.{slots_some, slots_two, slot_count-more, slot_count-front, insn_at-index}
use Rattle.bpf_insn_types.proofs.ProgramLaws.{insn_at-index_inner}
use Rattle.bpf_verify_model.specs.{declared.{rule.Rule.{Rule}, state.State.{State}}, States.{known_main_entry}}
use Rattle.bpf_verify_model.specs.Rules.{named_at, with_target, targets_in, slot_fault, insn_fault, state_fault}
use Rattle.bpf_verify_model.specs.{Rules.{callback_fault, exit_fault, or_else, reached, fault_of}, Flow.{flow}}
use Rattle.bpf_verify_model.specs.Inflow.{flow_unless, flow_if_reached, flow_from, received_all, entry, incoming}
use Rattle.bpf_verify_model.specs.Accepted.{BrokenRule, unless_earlier, fault_at_insn, fault_within}
use Rattle.bpf_verify.specs.{declared.error.VerifyError.{VerifyError, TheVariants.{Refused, Memory}}, Layout.{IsLayout}}
use Rattle.bpf_verify.specs.{declared.layout.Layout.{Layout}, Passing.{InsnStartsAt, out_of, Passed, IsFault}}
use Rattle.bpf_verify.proofs.StartLaws.{get_or-push-below, get_or-push-at}

-- the least rule from its parts
pub fault_of-parts : (program : Program) (slot : ℕ) (insn : Insn) (before : Option State) (sizes : List ℕ)
    (function : ℕ)
    (a b s k e r1 r2 r3 r4 : Option Rule) → sizes ≡ program.sizes → function ≡ function_of program.insns slot →
    a ≡ slot_fault program.insns slot insn → b ≡ insn_fault sizes insn →
    s ≡ reached (λ (state : State). state_fault sizes state insn) before → k ≡ callback_fault function insn →
    e ≡ reached (λ (state : State). exit_fault function state insn) before →
    r1 ≡ or_else k e → r2 ≡ or_else s r1 → r3 ≡ or_else b r2 → r4 ≡ or_else a r3
    → r4 ≡ fault_of program slot insn before
unfolding fault_of
fault_of-parts program slot insn before sizes function a b s k e r1 r2 r3 r4 same in_function ha hb hs hk he h1 h2 h3
    h4 =
    let hb' : b ≡ insn_fault program.sizes insn = hb ∙ ap (λ (z : List ℕ). insn_fault z insn) same in
    let hs' : s ≡ reached (λ (state : State). state_fault program.sizes state insn) before =
    hs ∙ ap (λ (z : List ℕ). reached (λ (state : State). state_fault z state insn) before) same in
    let hk' : k ≡ callback_fault (function_of program.insns slot) insn =
    hk ∙ ap (λ (f : ℕ). callback_fault f insn) in_function in
    let he' : e ≡ reached (λ (state : State). exit_fault (function_of program.insns slot) state insn) before =
    he ∙ ap (λ (f : ℕ). reached (λ (state : State). exit_fault f state insn) before) in_function in
    let r1' : r1 ≡ or_else (callback_fault (function_of program.insns slot) insn)
    (reached (λ (state : State). exit_fault (function_of program.insns slot) state insn) before) =
    h1 ∙ ap (λ (x : Option Rule). or_else x e) hk' ∙ ap (or_else (callback_fault (function_of program.insns slot) insn))
    he' in
    h4 ∙ ap (λ (x : Option Rule). or_else x r3) ha
    ∙ ap (or_else (slot_fault program.insns slot insn)) (h3 ∙ ap (λ (x : Option Rule). or_else x r2) hb'
    ∙ ap (or_else (insn_fault program.sizes insn)) (h2 ∙ ap (λ (x : Option Rule). or_else x r1) hs'
    ∙ ap (or_else (reached (λ (state : State). state_fault program.sizes state insn) before)) r1'))

-- the faults up to an instruction, where there was none before
pub fault_within-more : (program : Program) (slot : ℕ) (insn : Insn) (before : Option State) →
    fault_within program slot ≡ None → insn_at program.insns slot ≡ Some insn → before ≡ incoming program slot slot →
    fault_within program (slot + 1) ≡ unless_earlier None slot (fault_of program slot insn before)
unfolding fault_within
fault_within-more program slot insn before fine here known =
    let more : fault_within program (slot + 1) ≡ fault_within program (suc slot) =
    ap (fault_within program) (add-one slot) in
    more ∙ ap (λ (f : Option BrokenRule). unless_earlier f slot
    (fault_at_insn program slot (insn_at program.insns slot))) fine
    ∙ ap (λ (i : Option Insn). unless_earlier None slot (fault_at_insn program slot i)) here
    ∙ ap (λ (b : Option State). unless_earlier None slot (fault_of program slot insn b)) (sym known)

-- a fault stays the first
fault_within-steps : (program : Program) (slot n : ℕ) (fault : BrokenRule) → fault_within program slot ≡ Some fault
    → fault_within program (n + slot) ≡ Some fault
unfolding fault_within
fault_within-steps program slot zero fault found =
    let e : 0 + slot ≡ slot = omega arith in
    ap (fault_within program) e ∙ found
fault_within-steps program slot (suc n) fault found =
    let e : suc n + slot ≡ suc (n + slot) = omega arith in
    ap (fault_within program) e
    ∙ ap (λ (f : Option BrokenRule). unless_earlier f (n + slot) (fault_at_insn program (n + slot)
    (insn_at program.insns (n + slot)))) (fault_within-steps program slot n fault found)

pub fault_within-later : (program : Program) (slot n : ℕ) (fault : BrokenRule) → fault_within program slot ≡ Some fault
    → slot ≤ n →
    fault_within program n ≡ Some fault
fault_within-later program slot n fault found later =
    let e : n ≡ (n - slot) + slot = omega arith in
    ap (fault_within program) e ∙ fault_within-steps program slot (n - slot) fault found

-- the abstract state before a slot that the pass has come to
pub known-here : (program : Program) (slot : ℕ) (before : Option State) (targets : List ℕ) (table : List (Option State))
    →
    Passed program slot targets table → slot < length table → before ≡ get_or table slot None
    → before ≡ incoming program slot slot
known-here program slot before targets table passed inside read = read ∙ passed.known slot inside

-- what flows where no rule is broken
flow-fine : (program : Program) (slot : ℕ) (insn : Insn) (before : Option State) → fault_of program slot insn before
    ≡ None →
    flow_if_reached program slot insn before ≡ out_of program.sizes slot insn before
flow-fine program slot insn None fine = refl
flow-fine program slot insn (Some state) fine =
    ap (λ (r : Option Rule). flow_unless r (flow program.sizes slot state insn)) fine

-- one instruction more has been passed
pub passed-more : (program : Program) (slot : ℕ) (insn : Insn) (before : Option State) (named : Option ℕ)
    (targets targets' : List ℕ) (table table' : List (Option State)) →
    Passed program slot targets table → insn_at program.insns slot ≡ Some insn → slot < length table
    → before ≡ get_or table slot None →
    fault_of program slot insn before ≡ None → named ≡ named_by slot insn → targets' ≡ with_target targets named →
    ((t : ℕ) → t < length table → get_or table' t None ≡ received_all t (get_or table t None)
    (out_of program.sizes slot insn before)) →
    length table' ≡ length table → Passed program (slot + 1) targets' table'
unfolding incoming
passed-more program slot insn before named targets targets' table table' passed here inside known fine names listed
    handed size =
    let at : before ≡ incoming program slot slot = known-here program slot before targets table passed inside known in
    let more : slot + 1 ≡ suc slot = add-one slot in
    record {
      fine = fault_within-more program slot insn before passed.fine here at ∙ ap (unless_earlier None slot) fine;
      listed = listed ∙ ap (λ (ts : List ℕ). with_target ts named) passed.listed
          ∙ ap (with_target (targets_in program.insns slot)) (names ∙ sym (ap (named_at slot) here))
          ∙ sym (ap (targets_in program.insns) more);
      known = λ t h.
          let in_table : t < length table = omega (arith, size, h) in
          handed t in_table ∙ ap (λ (b : Option State). received_all t b (out_of program.sizes slot insn before))
          (passed.known t in_table)
          ∙ ap (received_all t (incoming program slot t)) (sym (flow-fine program slot insn before fine)
          ∙ ap (flow_if_reached program slot insn) at
          ∙ sym (ap (λ (i : Option Insn). flow_from program slot i (incoming program slot slot)) here))
          ∙ sym (ap (λ (n : ℕ). incoming program n t) more);
    }

-- a slot where no instruction starts has been passed
pub passed-skip : (program : Program) (slot : ℕ) (targets : List ℕ) (table : List (Option State)) →
    Passed program slot targets table → insn_at program.insns slot ≡ None → Passed program (slot + 1) targets table
unfolding incoming fault_within
passed-skip program slot targets table passed none =
    let more : slot + 1 ≡ suc slot = add-one slot in
    record {
      fine = ap (fault_within program) more
          ∙ ap (λ (f : Option BrokenRule). unless_earlier f slot
          (fault_at_insn program slot (insn_at program.insns slot))) passed.fine
          ∙ ap (λ (i : Option Insn). unless_earlier None slot (fault_at_insn program slot i)) none;
      listed = passed.listed ∙ sym (ap (λ (i : Option Insn). with_target (targets_in program.insns slot)
          (named_at slot i)) none) ∙ sym (ap (targets_in program.insns) more);
      known = λ t h. passed.known t h
          ∙ sym (ap (λ (i : Option Insn). received_all t (incoming program slot t)
          (flow_from program slot i (incoming program slot slot))) none)
          ∙ sym (ap (λ (n : ℕ). incoming program n t) more);
    }

-- before the first slot
pub passed-none : (program : Program) (table : List (Option State))
    → ((t : ℕ) → t < length table → get_or table t None ≡ entry t) →
    Passed program 0 [] table
unfolding incoming fault_within
passed-none program table starts = record { fine = refl; listed = refl; known = starts }

-- the first table with one slot more
pub first-more : (table table' : List (Option State)) (i : ℕ) → 0 < i → length table ≡ i
    → ((k : ℕ) → k < i → get_or table k None ≡ entry k) →
    table' ≡ table ++ (None ∷ []) → (k : ℕ) → k < i + 1 → get_or table' k None ≡ entry k
first-more table table' i some size so_far pushed k h = ap (λ (l : List (Option State)). get_or l k None) pushed
    ∙ by_place table i some size so_far k h (nat_lt k i) refl
  where
    later : (k : ℕ) → 0 < k → None ≡ entry k
    later zero h = absurd (omega arith)
    later (suc k) h = refl

    by_place : (table : List (Option State)) (i : ℕ) → 0 < i → length table ≡ i
        → ((k : ℕ) → k < i → get_or table k None ≡ entry k) →
        (k : ℕ) → k < i + 1 → (b : Bool) → nat_lt k i ≡ b → get_or (table ++ (None ∷ [])) k None ≡ entry k
    by_place table i some size so_far k h true e =
        let below : k < i = grind (arith, nat_tests) in
        get_or-push-below table None None k (omega arith) ∙ so_far k below
    by_place table i some size so_far k h false e =
        let past : i ≤ k = grind (arith, nat_tests) in
        get_or-push-at table None None k (omega arith) ∙ later k (omega arith)

-- the first slot alone
pub first-one : (table : List (Option State)) (state : State) → state ≡ known_main_entry → table ≡ []
    ++ (Some state ∷ []) →
    (k : ℕ) → k < 1 → get_or table k None ≡ entry k
first-one table state is pushed zero h = ap (λ (l : List (Option State)). get_or l 0 None) pushed ∙ ap Some is
first-one table state is pushed (suc k) h = absurd (omega arith)

-- an instruction of a list, at its slot
pub record At (insns : List Insn) (layout : Layout) (count slot i : ℕ) (x : Insn) : Type 0 where
  pub stands : InsnStartsAt insns layout slot
  pub here : insn_at insns slot ≡ Some x
  pub inside : slot + slots_of x ≤ count
  pub some : 1 ≤ slots_of x
  pub more : slot + slots_of x ≡ slot_count (take (i + 1) insns)
  pub inner : (k : ℕ) → slot < k → k < slot + slots_of x → insn_at insns k ≡ None

pub at-index : (insns seen : List Insn) (layout : Layout) (count slot i : ℕ) (x : Insn) → IsLayout insns layout
    → slot_count insns ≡ count →
    count ≤ 4096 → seen ≡ insns → i < length seen → x ≡ get_or seen i x → slot ≡ slot_count (take i insns)
    → At insns layout count slot i x
at-index insns seen layout count slot i x layout_is counted few same test read low =
    let inside : i < length insns = subst (λ (l : List Insn). i < length l) same test in
    let is : x ≡ get_or insns i x = read ∙ ap (λ (l : List Insn). get_or l i x) same in
    let here : insn_at insns slot ≡ Some x = ap (insn_at insns) low ∙ insn_at-index insns i x inside is in
    let front : slot + slots_of x ≤ count = omega (arith, slot_count-front insns i x inside is) in
    let some : 1 ≤ slots_of x = slots_some x in
    record {
      stands = record { layout_is = layout_is; here = ap is_some here; low = omega arith };
      here = here;
      inside = front;
      some = some;
      more = omega (arith, slot_count-more insns i x inside is);
      inner = λ k m n. insn_at-index_inner insns i x k inside is (omega arith) (omega arith);
    }

-- an instruction of one or two slots has been passed
pub passed-over : (program : Program) (slot n : ℕ) (x : Insn) (targets : List ℕ) (table : List (Option State)) →
    Passed program (slot + 1) targets table → n ≡ slots_of x → ((k : ℕ) → slot < k → k < slot + slots_of x
    → insn_at program.insns k ≡ None) →
    Passed program (slot + n) targets table
passed-over program slot n x targets table passed is inner =
    by_size program slot n targets table passed (omega (arith, slots_some x)) (omega (arith, slots_two x))
    (λ k m h. inner k m (omega arith)) (nat_lt 1 n) refl
  where
    by_size : (program : Program) (slot n : ℕ) (targets : List ℕ) (table : List (Option State))
        → Passed program (slot + 1) targets table →
        1 ≤ n → n ≤ 2 → ((k : ℕ) → slot < k → k < slot + n → insn_at program.insns k ≡ None) → (b : Bool)
        → nat_lt 1 n ≡ b → Passed program (slot + n) targets table
    by_size program slot n targets table passed some two inner true e =
        let is_two : 1 < n = grind (arith, nat_tests) in
        let there : slot + 1 + 1 ≡ slot + n = omega arith in
        subst (λ (k : ℕ). Passed program k targets table) there (passed-skip program (slot + 1) targets table passed
        (inner (slot + 1) (omega arith) (omega arith)))
    by_size program slot n targets table passed some two inner false e =
        let is_one : n ≤ 1 = grind (arith, nat_tests) in
        let there : slot + 1 ≡ slot + n = omega arith in
        subst (λ (k : ℕ). Passed program k targets table) there passed

-- a fault of the first slots is the first of all
pub fault-later : (program : Program) (slot n : ℕ) (error : VerifyError) → IsFault (fault_within program slot) error
    → slot ≤ n →
    IsFault (fault_within program n) error
fault-later program slot n Memory found h = tt
fault-later program slot n (Refused rule s) found h =
    fault_within-later program slot n (record { rule = rule; slot = s }) found h
