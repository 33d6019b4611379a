-- What is read from slots is spelled by them: every form.
use Rattle.std.proofs.Common.{◌≡◌, ℕ, ◌<◌, Bool, true, false, cond, eqb, ltb, List, [], ◌∷◌, Option, Some}
use Rattle.std.proofs.Common.{None, Result, Ok, Err, refl, sym, ap, ◌∙◌, inr}
use Rattle.std.specs.Prelude.{IfOk, IfSome, ◌||◌, not, ℤ, pos}
use Rattle.std.proofs.lemmas.Bool.{eqb-true, ltb-false, or_parts, not-false, cond_both}
use Rattle.bpf_insn_types.specs.declared.insn.{Width.{Width}, ByteOrder.{ByteOrder}}
use Rattle.bpf_insn_types.specs.declared.insn.{Callee.{TheVariants.{Helper, Local, Btf}}}
use Rattle.bpf_insn_types.specs.declared.insn.{AtomicOp.TheVariants.{Simple, Fetch, Xchg, Cmpxchg}, ImmKind.{ImmKind}}
use Rattle.bpf_insn_types.specs.declared.insn.Insn.{Insn}
use Rattle.bpf_insn_types.specs.declared.insn.Size.TheVariants as size
use Rattle.bpf_insn_types.specs.declared.insn.AluOp.TheVariants as op
use Rattle.bpf_insn_types.specs.declared.insn.EndianBits.TheVariants as endian
use Rattle.bpf_insn_types.specs.declared.insn.SimpleOp.TheVariants as simple
use Rattle.bpf_insn_types.specs.declared.insn.ImmKind.TheVariants as kind
use Rattle.bpf_insn_types.specs.declared.insn.Insn.TheVariants as insn
use Rattle.bpf_insn.specs.declared.{form.Form.{Form}, slot.Slot.{Slot}, codec_error.CodecFault.{CodecFault}}
use Rattle.bpf_insn.specs.{Opcode.{opcode, form_at}, SlotBytes.{slot}, Reading.{checked_slot, insn_of_slot}}
use Rattle.bpf_insn.specs.Spelling.{endian_imm, callee_src, atomic_imm, kind_src, has_next, second, both, two_slots}
use Rattle.bpf_insn.specs.Reading.{is, unused_are_zero, endian_at, call_at, atomic_at, atomic_insn, imm_kind_at}
use Rattle.bpf_insn.specs.Reading.{is_second, load_imm_at, insn_of_form}
use Rattle.bpf_insn.proofs.{Forms.{opcode-form_at}, Spelled.{Holds, Reads, Passed, kept-same, reads, chosen, slot_is}}
use Rattle.bpf_insn.proofs.Spelled.{is_true, four_true, imm_reads, reg_reads, mov_reads}
use Rattle.bpf_insn.specs.declared.form.Form.TheVariants as form
use Rattle.bpf_insn.specs.declared.codec_error.CodecFault.TheVariants as faults

pos_is : (m n : ℕ) → pos m ≡ pos n → m ≡ n
pos_is m n e = cc

-- ---- byte orders, calls, atomics

endian_reads : (o : ByteOrder) (s : Slot) (next : Option Slot) → Passed (form.Endian o) s
    → IfOk (endian_at o s.dst s.imm) (Reads s next)
endian_reads o s next p =
    chosen (λ r. IfOk r (Reads s next)) endian_imm (λ b. Ok (insn.Endian o b s.dst)) (endian.B16 ∷ endian.B32
    ∷ endian.B64 ∷ []) (Err faults.Immediate) s.imm (λ b h. reads p (rw h refl) p.dst) tt

call_reads : (s : Slot) (next : Option Slot) → Passed form.Call s → IfOk (call_at s.src s.imm) (Reads s next)
call_reads s next p =
    chosen (λ r. IfOk r (Reads s next)) (λ k. pos (callee_src k)) (λ k. Ok (insn.Call k s.imm)) (Helper ∷ Local ∷ Btf
    ∷ []) (Err faults.CallSource) (pos s.src) (λ k h. reads p (rw (pos_is s.src (callee_src k) h) refl) p.holds.imm) tt

atomic_reads : (w : Width) (s : Slot) (next : Option Slot) → Passed (form.Atomic w) s
    → IfOk (atomic_insn w s.dst s.src s.offset (atomic_at s.imm)) (Reads s next)
atomic_reads w s next p =
    chosen (λ r. IfOk (atomic_insn w s.dst s.src s.offset r) (Reads s next)) atomic_imm (λ o. Ok o) (Simple simple.Add
    ∷ Simple simple.Or ∷ Simple simple.And ∷ Simple simple.Xor ∷ Fetch simple.Add ∷ Fetch simple.Or ∷ Fetch simple.And
    ∷ Fetch simple.Xor ∷ Xchg ∷ Cmpxchg ∷ []) (Err faults.Immediate) s.imm
    (λ o h. reads p (rw h refl) (p.dst, p.src, p.holds.offset)) tt

-- ---- loads of two slots

two_is : (kind : ImmKind) (b : Bool) (dst : ℕ) (imm next : ℤ) → not (b || is next 0) ≡ false
    → two_slots kind b dst imm next ≡ both kind dst imm next
two_is kind true dst imm next h = refl
two_is kind false dst imm next h = rw (is_true next 0 (not-false (is next 0) h)) refl

second_is : (t : Slot) → is_second t ≡ true → second t.imm ≡ t
second_is t h =
    let zeros = four_true (eqb t.opcode 0) (eqb t.dst 0) (eqb t.src 0) (is t.offset 0) h in
    let imm : t.imm ≡ t.imm = refl in
    let same = slot_is (eqb-true t.opcode 0 zeros.0) (eqb-true t.dst 0 zeros.1) (eqb-true t.src 0 zeros.2)
    (is_true t.offset 0 zeros.3) imm in
    sym same

-- the next slot, where there is one, holds its fields
abbrev pub NextHolds : Option Slot → Type 0
NextHolds next = IfSome next Holds

abbrev ok_pair : Slot → Slot → Result (List Slot) CodecFault
ok_pair a b = Ok (a ∷ b ∷ [])

pair_is : (a b c d : Slot) → a ≡ b → c ≡ d → ok_pair a c ≡ ok_pair b d
pair_is a b c d e f = rw (e, f) refl

kind_reads : (s : Slot) (next : Option Slot) (k : ImmKind) → Passed form.LoadImm s → NextHolds next
    → pos s.src ≡ pos (kind_src k) → IfOk (load_imm_at (Some k) s.dst s.imm next) (Reads s next)
kind_reads s None k p n h = tt
kind_reads s (Some t) k p n h =
    let P : Result Insn CodecFault → Type 0 = λ r. IfOk r (Reads s (Some t)) in
    let read : Result Insn CodecFault = Ok (insn.LoadImm k s.dst s.imm t.imm) in
    let here : slot form.LoadImm s.dst (kind_src k) (pos 0) s.imm ≡ s = rw (← pos_is s.src (kind_src k) h) p.same in
    cond_both (not (has_next k || is t.imm 0)) (Err faults.FieldNotZero) (cond (is_second t) read
    (Err faults.SecondSlot)) P (λ _. tt)
    (λ a. cond_both (is_second t) read (Err faults.SecondSlot) P
    (λ b. record {
      taken = inr (t, refl, two_is k (has_next k) s.dst s.imm t.imm a ∙ pair_is _ s _ t here (second_is t b));
      fits = (p.dst, p.holds.imm, n.imm);
    })
    (λ _. tt))

load_imm_reads : (s : Slot) (next : Option Slot) → Passed form.LoadImm s → NextHolds next
    → IfOk (load_imm_at (imm_kind_at s.src) s.dst s.imm next) (Reads s next)
load_imm_reads s next p n =
    chosen (λ o. IfOk (load_imm_at o s.dst s.imm next) (Reads s next)) (λ k. pos (kind_src k)) (λ k. Some k)
    (kind.Number ∷ kind.MapFd ∷ kind.MapFdValue ∷ kind.Variable ∷ kind.Code ∷ kind.Map ∷ kind.MapValue ∷ []) None
    (pos s.src) (λ k h. kind_reads s next k p n h) tt

-- ---- every form

none_is_some : (f : Form) → None ≡ Some f → ⊥
none_is_some f e = absurd cc

form_reads : (f : Form) (s : Slot) (next : Option Slot) → Passed f s → NextHolds next
    → IfOk (insn_of_form f s.dst s.src s.offset s.imm next) (Reads s next)
form_reads (form.AluImm w c) s next p n = imm_reads w c s next p
form_reads (form.AluReg w op.Mov) s next p n = mov_reads w s next p
form_reads (form.AluReg w c) s next p n = reg_reads w c s next p refl
form_reads (form.Neg w) s next p n = reads p refl p.dst
form_reads (form.Endian o) s next p n = endian_reads o s next p
form_reads form.Ja s next p n = reads p refl p.holds.offset
form_reads form.Ja32 s next p n = reads p refl p.holds.imm
form_reads (form.JumpImm w c) s next p n = reads p refl (p.dst, p.holds.imm, p.holds.offset)
form_reads (form.JumpReg w c) s next p n = reads p refl (p.dst, p.src, p.holds.offset)
form_reads form.Call s next p n = call_reads s next p
form_reads form.Exit s next p n = reads p refl tt
form_reads (form.Load z) s next p n = reads p refl (p.dst, p.src, p.holds.offset)
form_reads (form.LoadSx size.Dw) s next p n = absurd (none_is_some (form.LoadSx size.Dw) p.says)
form_reads (form.LoadSx z) s next p n = reads p refl (p.dst, p.src, p.holds.offset)
form_reads (form.StoreImm z) s next p n = reads p refl (p.dst, p.holds.offset, p.holds.imm)
form_reads (form.Store z) s next p n = reads p refl (p.dst, p.src, p.holds.offset)
form_reads (form.Atomic w) s next p n = atomic_reads w s next p
form_reads form.LoadImm s next p n = load_imm_reads s next p n

tested_reads : (o : Option Form) (s : Slot) (next : Option Slot) → form_at s.opcode ≡ o
    → IfSome o (λ f. opcode f ≡ s.opcode) → Holds s → NextHolds next → IfOk (checked_slot o s next) (Reads s next)
tested_reads None s next e h a n = tt
tested_reads (Some f) s next e h a n =
    let P : Result Insn CodecFault → Type 0 = λ r. IfOk r (Reads s next) in
    let read = insn_of_form f s.dst s.src s.offset s.imm next in
    cond_both (ltb 10 s.dst || ltb 10 s.src) (Err faults.RegisterNumber) (cond (unused_are_zero f s) read
    (Err faults.FieldNotZero)) P (λ _. tt)
    (λ r. cond_both (unused_are_zero f s) read (Err faults.FieldNotZero) P
    (λ u.
    let regs = or_parts (ltb 10 s.dst) (ltb 10 s.src) r in
    form_reads f s next (record {
      says = ap form_at h ∙ e;
      dst = ltb-false 10 s.dst regs.0;
      src = ltb-false 10 s.src regs.1;
      same = kept-same f s h u;
      holds = a;
    }) n)
    (λ _. tt))

-- an instruction that is read is spelled by its slots
pub slot_reads : (s : Slot) (next : Option Slot) → s.opcode < 256 → Holds s → NextHolds next
    → IfOk (insn_of_slot s next) (Reads s next)
unfolding insn_of_slot
slot_reads s next lt a n = tested_reads (form_at s.opcode) s next refl (opcode-form_at s.opcode lt) a n
