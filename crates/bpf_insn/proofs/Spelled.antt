-- What is read from slots is spelled by them: fields, and arithmetic.
use Rattle.std.proofs.Common.{◌≡◌, ℕ, ◌≤◌, Bool, true, false, cond, eqb, List, [], ◌∷◌, Option, Some, Result, Ok, Err}
use Rattle.std.proofs.{Common.{refl, sym, ap, ◌∙◌, inl, ◌⊎◌}, lemmas.Bool.{eqb-true, cond_both}}
use Rattle.std.specs.{Int.{w16, w32}, Prelude.{IfOk, ◌&&◌, ◌||◌, ℤ, pos, negsuc, FitsSigned}}
use Rattle.bpf_insn_types.specs.declared.insn.{Width.{Width, TheVariants.{W32, W64}}, AluOp.{AluOp}, Operand.{Operand}}
use Rattle.bpf_insn_types.specs.{declared.insn.{Operand.TheVariants.{Imm, Reg}, Insn.{Insn}}, Values.{InsnFits}}
use Rattle.bpf_insn_types.specs.declared.insn.MovsxBits.{MovsxBits}
use Rattle.bpf_insn_types.specs.declared.insn.MovsxBits.TheVariants as movsx
use Rattle.bpf_insn_types.specs.declared.insn.AluOp.TheVariants as op
use Rattle.bpf_insn_types.specs.declared.insn.Insn.TheVariants as insn
use Rattle.bpf_insn.specs.{declared.{form.Form.{Form}, slot.Slot.{Slot}}, Opcode.{alu_code, opcode, form_at}}
use Rattle.bpf_insn.specs.{declared.codec_error.CodecFault.{CodecFault}, SlotBytes.{slot}}
use Rattle.bpf_insn.specs.Spelling.{op_offset, movsx_offset, spelling}
use Rattle.bpf_insn.specs.Reading.{is, uses, unused_are_zero, has_signed}
use Rattle.bpf_insn.specs.Reading.{has_offset, signed_op_at, alu_op_at, alu_insn, movsx_32, mov_at}
use Rattle.bpf_insn.specs.declared.form.Form.TheVariants as form
use Rattle.bpf_insn.specs.declared.codec_error.CodecFault.TheVariants as faults

-- the signed fields of a slot fit
pub record Holds (s : Slot) : Type 0 where
  pub offset : FitsSigned w16 s.offset
  pub imm : FitsSigned w32 s.imm

-- an instruction is spelled by a slot, or by it and the next
abbrev pub Takes : Slot → Option Slot → Insn → Type 0
Takes s next i = (spelling i ≡ Ok (s ∷ [])) ⊎ ((t : Slot) × (next ≡ Some t) × (spelling i ≡ Ok (s ∷ t ∷ [])))

pub record Reads (s : Slot) (next : Option Slot) (i : Insn) : Type 0 where
  pub taken : Takes s next i
  pub fits : InsnFits i

-- ---- slots by their fields

abbrev pub slot_of : (o d r : ℕ) (x z : ℤ) → Slot
slot_of o d r x z = record { opcode = o; dst = d; src = r; offset = x; imm = z }

pub slot_is : {o p d e r q : ℕ} {x y z w : ℤ} → o ≡ p → d ≡ e → r ≡ q → x ≡ y → z ≡ w
    → slot_of o d r x z ≡ slot_of p e q y w
slot_is a b c d e = rw (a, b, c, d, e) refl

pub is_true : (z : ℤ) (n : ℕ) → is z n ≡ true → z ≡ pos n
is_true (pos m) n h = ap (λ (k : ℕ). pos k) (eqb-true m n h)
is_true (negsuc m) n h = absurd cc

pub four_true : (a b c d : Bool) → (a && b && c && d) ≡ true → (a ≡ true) × (b ≡ true) × (c ≡ true) × (d ≡ true)
four_true true true true true h = (refl, refl, refl, refl)
four_true _ _ _ _ h = absurd cc

-- a field that is used, or zero
abbrev field : Bool → ℕ → ℕ
field true n = n
field false n = 0

abbrev signed_field : Bool → ℤ → ℤ
signed_field true z = z
signed_field false z = pos 0

field_is : (b : Bool) (n : ℕ) → (b || eqb n 0) ≡ true → field b n ≡ n
field_is true n h = refl
field_is false n h = sym (eqb-true n 0 h)

signed_field_is : (b : Bool) (z : ℤ) → (b || is z 0) ≡ true → signed_field b z ≡ z
signed_field_is true z h = refl
signed_field_is false z h = sym (is_true z 0 h)

-- the slot of a form with the fields of another that it uses
abbrev pub kept : Form → Slot → Slot
kept f s = slot f (field (uses f).0 s.dst) (field (uses f).1 s.src) (signed_field (uses f).2 s.offset)
    (signed_field (uses f).3 s.imm)

-- it is the slot itself, where the other fields are zero
pub kept-same : (f : Form) (s : Slot) → opcode f ≡ s.opcode → unused_are_zero f s ≡ true → kept f s ≡ s
kept-same f s h u =
    let zero = four_true ((uses f).0 || eqb s.dst 0) ((uses f).1 || eqb s.src 0) ((uses f).2 || is s.offset 0)
    ((uses f).3 || is s.imm 0) u in
    let same = slot_is h (field_is (uses f).0 s.dst zero.0) (field_is (uses f).1 s.src zero.1)
    (signed_field_is (uses f).2 s.offset zero.2) (signed_field_is (uses f).3 s.imm zero.3) in
    same

-- what the tests of a slot leave
pub record Passed (f : Form) (s : Slot) : Type 0 where
  pub says : form_at (opcode f) ≡ Some f
  pub dst : s.dst ≤ 10
  pub src : s.src ≤ 10
  pub same : kept f s ≡ s
  pub holds : Holds s

-- an instruction that is spelled by the fields that its form uses
pub reads : {f : Form} {s : Slot} {next : Option Slot} {i : Insn} → Passed f s → spelling i ≡ Ok (kept f s ∷ [])
    → InsnFits i → Reads s next i
reads p e fits = record { taken = inl (e ∙ ap (λ (x : Slot). Ok (x ∷ [])) p.same); fits = fits }

-- ---- choices by a number

abbrev same_number : ℤ → ℤ → Bool
same_number z (pos n) = is z n
same_number z (negsuc n) = false

same_number-true : (z w : ℤ) → same_number z w ≡ true → z ≡ w
same_number-true z (pos n) h = is_true z n h
same_number-true z (negsuc n) h = absurd cc

-- what is made of the first of some values that has this number
abbrev pub choice : {A R : Type 0} → (A → ℤ) → (A → R) → List A → R → ℤ → R
choice number made [] none z = none
choice number made (x ∷ xs) none z = cond (same_number z (number x)) (made x) (choice number made xs none z)

-- a property of each value of this number, and of what is left where none has it
pub chosen : {A R : Type 0} (P : R → Type 0) (number : A → ℤ) (made : A → R) (xs : List A) (none : R) (z : ℤ)
    → ((x : A) → z ≡ number x → P (made x)) → P none → P (choice number made xs none z)
chosen P number made [] none z h q = q
chosen P number made (x ∷ xs) none z h q =
    cond_both (same_number z (number x)) (made x) (choice number made xs none z) P
    (λ e. h x (same_number-true z (number x) e)) (λ _. chosen P number made xs none z h q)

-- ---- arithmetic

abbrev IsOp : AluOp → ℤ → AluOp → Type 0
IsOp c offset o = (alu_code o ≡ alu_code c) × (op_offset o ≡ signed_field (has_signed c) offset)

signed_is : (P : AluOp → Type 0) (offset : ℤ) (plain signed : AluOp) → (offset ≡ pos 0 → P plain)
    → (offset ≡ pos 1 → P signed) → IfOk (signed_op_at offset plain signed) P
signed_is P offset plain signed a b =
    cond_both (is offset 0) (Ok plain) (cond (is offset 1) (Ok signed) (Err faults.Offset)) (λ r. IfOk r P)
    (λ h. a (is_true offset 0 h))
    (λ _. cond_both (is offset 1) (Ok signed) (Err faults.Offset) (λ r. IfOk r P) (λ h. b (is_true offset 1 h))
    (λ _. tt))

op_is : (c : AluOp) (offset : ℤ) → IfOk (alu_op_at c offset) (IsOp c offset)
op_is op.Div offset = signed_is (IsOp op.Div offset) offset op.Div op.Sdiv (λ h. (refl, sym h)) (λ h. (refl, sym h))
op_is op.Sdiv offset = signed_is (IsOp op.Sdiv offset) offset op.Div op.Sdiv (λ h. (refl, sym h)) (λ h. (refl, sym h))
op_is op.Mod offset = signed_is (IsOp op.Mod offset) offset op.Mod op.Smod (λ h. (refl, sym h)) (λ h. (refl, sym h))
op_is op.Smod offset = signed_is (IsOp op.Smod offset) offset op.Mod op.Smod (λ h. (refl, sym h)) (λ h. (refl, sym h))
op_is _ offset = (refl, refl)

alu_if : (P : Insn → Type 0) (w : Width) (dst : ℕ) (operand : Operand) (Q : AluOp → Type 0)
    (r : Result AluOp CodecFault) → IfOk r Q → ((o : AluOp) → Q o → P (insn.Alu w o dst operand))
    → IfOk (alu_insn w dst operand r) P
alu_if P w dst operand Q (Ok o) q h = h o q
alu_if P w dst operand Q (Err e) q h = tt

pub imm_reads : (w : Width) (c : AluOp) (s : Slot) (next : Option Slot) → Passed (form.AluImm w c) s
    → IfOk (alu_insn w s.dst (Imm s.imm) (alu_op_at c s.offset)) (Reads s next)
imm_reads w c s next p =
    alu_if (Reads s next) w s.dst (Imm s.imm) (IsOp c s.offset) (alu_op_at c s.offset) (op_is c s.offset)
    (λ o q. reads p (rw (q.0, q.1) refl) (p.dst, p.holds.imm))

pub reg_reads : (w : Width) (c : AluOp) (s : Slot) (next : Option Slot) → Passed (form.AluReg w c) s
    → has_offset c ≡ has_signed c → IfOk (alu_insn w s.dst (Reg s.src) (alu_op_at c s.offset)) (Reads s next)
reg_reads w c s next p e =
    alu_if (Reads s next) w s.dst (Reg s.src) (IsOp c s.offset) (alu_op_at c s.offset) (op_is c s.offset)
    (λ o q. reads p (rw (q.0, q.1, e) refl) (p.dst, p.src))

-- a sign-extending move, if its width has one of its bits
abbrev movsx_insn : Width → MovsxBits → ℕ → ℕ → Result Insn CodecFault
movsx_insn w movsx.B32 dst src = movsx_32 w dst src
movsx_insn w bits dst src = Ok (insn.Movsx w bits dst src)

movsx_reads : (w : Width) (bits : MovsxBits) (s : Slot) (next : Option Slot) → Passed (form.AluReg w op.Mov) s
    → s.offset ≡ movsx_offset bits → IfOk (movsx_insn w bits s.dst s.src) (Reads s next)
movsx_reads W32 movsx.B32 s next p h = tt
movsx_reads W64 movsx.B32 s next p h = reads p (rw h refl) (p.dst, p.src)
movsx_reads _ _ s next p h = reads p (rw h refl) (p.dst, p.src)

pub mov_reads : (w : Width) (s : Slot) (next : Option Slot) → Passed (form.AluReg w op.Mov) s
    → IfOk (mov_at w s.dst s.src s.offset) (Reads s next)
mov_reads w s next p =
    let P : Result Insn CodecFault → Type 0 = λ r. IfOk r (Reads s next) in
    let read : MovsxBits → Result Insn CodecFault = λ bits. movsx_insn w bits s.dst s.src in
    let bits = movsx.B8 ∷ movsx.B16 ∷ movsx.B32 ∷ [] in
    cond_both (is s.offset 0) (Ok (insn.Alu w op.Mov s.dst (Reg s.src))) (choice movsx_offset read bits
    (Err faults.Offset) s.offset) P (λ h. reads p (rw (is_true s.offset 0 h) refl) (p.dst, p.src))
    (λ _. chosen P movsx_offset read bits (Err faults.Offset) s.offset (λ b. movsx_reads w b s next p) tt)
