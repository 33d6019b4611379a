-- The slots of an instruction have bytes, and are read as it.
use Rattle.std.proofs.Common.{◌≡◌, ℕ, zero, ◌^◌, ◌≤◌, ◌<◌, Bool, true, false, cond, ltb, List, [], ◌∷◌, ◌++◌}
use Rattle.std.proofs.Common.{Option, Some, Result, Ok, Err, refl, ap, ◌∙◌, arith}
use Rattle.std.{specs.Int.{w16, w32}, proofs.lemmas.{Bool.{le-ltb}, Result.{IfOk-weaker}}}
use Rattle.std.specs.Prelude.{IfOk, ◌||◌, ℤ, pos, FitsSigned}
use Rattle.bpf_insn_types.specs.declared.insn.{Width.TheVariants.{W32, W64}, Operand.TheVariants.{Imm, Reg}}
use Rattle.bpf_insn_types.specs.declared.insn.{Callee.TheVariants.{Helper}, ImmKind.{ImmKind}, Insn.{Insn}}
use Rattle.bpf_insn_types.specs.{declared.insn.AtomicOp.TheVariants.{Simple, Fetch}, Values.{InsnFits}}
use Rattle.bpf_insn_types.specs.declared.insn.Size.TheVariants as size
use Rattle.bpf_insn_types.specs.declared.insn.EndianBits.TheVariants as endian
use Rattle.bpf_insn_types.specs.declared.insn.MovsxBits.TheVariants as movsx
use Rattle.bpf_insn_types.specs.declared.insn.AluOp.TheVariants as op
use Rattle.bpf_insn_types.specs.declared.insn.SimpleOp.TheVariants as simple
use Rattle.bpf_insn_types.specs.declared.insn.ImmKind.TheVariants as kind
use Rattle.bpf_insn_types.specs.declared.insn.Insn.TheVariants as insn
use Rattle.bpf_insn.specs.declared.{form.Form.{Form}, slot.Slot.{Slot}, codec_error.CodecFault.{CodecFault}}
use Rattle.bpf_insn.specs.{Opcode.{opcode, form_at}, SlotBytes.{slot, slot_bytes, slots_bytes}}
use Rattle.bpf_insn.specs.Spelling.{kind_src, has_next, second, two_slots, spelling}
use Rattle.bpf_insn.specs.Reading.{unused_are_zero, imm_kind_at, load_imm_at, insn_of_form, checked_slot, insn_of_slot}
use Rattle.bpf_insn.specs.Reading.{first, slots_in, first_insn}
use Rattle.bpf_insn.proofs.{Forms.{form_at-opcode}, Bytes.{HasBytes, HaveBytes, slot_at-slot_bytes}}
use Rattle.bpf_insn.proofs.Fronts.{first_insn-slot_bytes}
use Rattle.bpf_insn.specs.declared.form.Form.TheVariants as form
use Rattle.bpf_insn.specs.declared.codec_error.CodecFault.TheVariants as faults

-- slots have bytes, and bytes that begin with theirs are read as this instruction
pub record IsSpelledBy (i : Insn) (ss : List Slot) : Type 0 where
  pub have : HaveBytes ss
  pub again : (rest : List ℕ) → first_insn (slots_bytes ss ++ rest) ≡ Ok i

-- ---- the slot of a form

fits16 : (n : ℕ) → n < 2 ^ 15 → FitsSigned w16 (pos n)
fits16 n h = record { sfits = h }

fits32 : (n : ℕ) → n < 2 ^ 31 → FitsSigned w32 (pos n)
fits32 n h = record { sfits = h }

no_offset : FitsSigned w16 (pos 0)
no_offset = fits16 0 (omega arith)

no_imm : FitsSigned w32 (pos 0)
no_imm = fits32 0 (omega arith)

no_reg : 0 ≤ 10
no_reg = omega arith

passes : (a b c : Bool) (r : Result Insn CodecFault) → a ≡ false → b ≡ false → c ≡ true
    → cond (a || b) (Err faults.RegisterNumber) (cond c r (Err faults.FieldNotZero)) ≡ r
passes a b c r x y z = rw (x, y, z) refl

back : (f : Form) (dst src : ℕ) (offset imm : ℤ) (next : Option Slot) (i : Insn) → form_at (opcode f) ≡ Some f
    → dst ≤ 10 → src ≤ 10
    → unused_are_zero f (slot f dst src offset imm) ≡ true → insn_of_form f dst src offset imm next ≡ Ok i
    → insn_of_slot (slot f dst src offset imm) next ≡ Ok i
unfolding insn_of_slot
back f dst src offset imm next i says d s unused read =
    ap (λ (o : Option Form). checked_slot o (slot f dst src offset imm) next) says
    ∙ passes (ltb 10 dst) (ltb 10 src) (unused_are_zero f (slot f dst src offset imm)) (insn_of_form f dst src offset
    imm next) (le-ltb 10 dst d) (le-ltb 10 src s) unused
    ∙ read

-- one slot: its opcode says its form, its numbers fit, and its fields are read as the instruction
one : {dst src : ℕ} {offset imm : ℤ} {i : Insn} (f : Form) → form_at (opcode f) ≡ Some f → dst ≤ 10 → src ≤ 10
    → FitsSigned w16 offset → FitsSigned w32 imm → unused_are_zero f (slot f dst src offset imm) ≡ true
    → ((next : Option Slot) → insn_of_form f dst src offset imm next ≡ Ok i)
    → IsSpelledBy i (slot f dst src offset imm ∷ [])
one {dst} {src} {offset} {imm} {i} f says d s o m unused read =
    let has : HasBytes (slot f dst src offset imm) =
    record { dst = d; src = s; holds = record { offset = o; imm = m } } in
    record {
      have = (has, tt);
      again = λ rest. first_insn-slot_bytes (slot f dst src offset imm) rest has
          ∙ back f dst src offset imm (first (slots_in rest)) i says d s unused (read (first (slots_in rest)));
    }

-- ---- loads of two slots

imm_kind_at-src : (k : ImmKind) → imm_kind_at (kind_src k) ≡ Some k
imm_kind_at-src kind.Number = refl
imm_kind_at-src _ = refl

kind_src-le : (k : ImmKind) → kind_src k ≤ 10
kind_src-le kind.Number = omega arith
kind_src-le _ = omega arith

two : (kind : ImmKind) (dst : ℕ) (imm next : ℤ) → dst ≤ 10 → FitsSigned w32 imm → FitsSigned w32 next
    → load_imm_at (Some kind) dst imm (Some (second next)) ≡ Ok (insn.LoadImm kind dst imm next)
    → IsSpelledBy (insn.LoadImm kind dst imm next) (slot form.LoadImm dst (kind_src kind) (pos 0) imm ∷ second next
    ∷ [])
unfolding slots_in
two kind dst imm next d i n read =
    let here = slot form.LoadImm dst (kind_src kind) (pos 0) imm in
    let has : HasBytes here =
    record { dst = d; src = kind_src-le kind; holds = record { offset = no_offset; imm = i } } in
    let next_has : HasBytes (second next) =
    record { dst = no_reg; src = no_reg; holds = record { offset = no_offset; imm = n } } in
    record {
      have = (has, (next_has, tt));
      again = λ rest. first_insn-slot_bytes here (slot_bytes (second next) ++ rest) has
          ∙ ap (λ (t : Slot). insn_of_slot here (Some t)) (slot_at-slot_bytes (second next) next_has)
          ∙ back form.LoadImm dst (kind_src kind) (pos 0) imm (Some (second next)) (insn.LoadImm kind dst imm next) refl
          d (kind_src-le kind) refl
          (ap (λ (o : Option ImmKind). load_imm_at o dst imm (Some (second next))) (imm_kind_at-src kind) ∙ read);
    }

two_spelled : (kind : ImmKind) (b : Bool) (dst : ℕ) (imm next : ℤ) → dst ≤ 10 → FitsSigned w32 imm → FitsSigned w32 next
    → b ≡ has_next kind → IfOk (two_slots kind b dst imm next) (IsSpelledBy (insn.LoadImm kind dst imm next))
two_spelled kind true dst imm next d i n h = two kind dst imm next d i n (rw (← h) refl)
two_spelled kind false dst imm (pos zero) d i n h = two kind dst imm (pos 0) d i n (rw (← h) refl)
two_spelled kind false dst imm _ d i n h = tt

-- ---- every instruction

pub spelled_by : (i : Insn) → InsnFits i → IfOk (spelling i) (IsSpelledBy i)
spelled_by (insn.Alu w op.Add dst (Imm imm)) h =
    one (form.AluImm w op.Add) (form_at-opcode (form.AluImm w op.Add)) h.0 no_reg no_offset h.1 refl (λ _. refl)
spelled_by (insn.Alu w op.Sdiv dst (Imm imm)) h = one (form.AluImm w op.Div) (form_at-opcode (form.AluImm w op.Div))
    h.0 no_reg (fits16 1 (omega arith)) h.1 refl (λ _. refl)
spelled_by (insn.Alu w op.Smod dst (Imm imm)) h = one (form.AluImm w op.Mod) (form_at-opcode (form.AluImm w op.Mod))
    h.0 no_reg (fits16 1 (omega arith)) h.1 refl (λ _. refl)
spelled_by (insn.Alu w o dst (Imm imm)) h = one (form.AluImm w o) (form_at-opcode (form.AluImm w o))
    h.0 no_reg (fits16 _ (omega arith)) h.1 refl (λ _. refl)
spelled_by (insn.Alu w op.Add dst (Reg src)) h =
    one (form.AluReg w op.Add) (form_at-opcode (form.AluReg w op.Add)) h.0 h.1 no_offset no_imm refl (λ _. refl)
spelled_by (insn.Alu w op.Sdiv dst (Reg src)) h = one (form.AluReg w op.Div) (form_at-opcode (form.AluReg w op.Div))
    h.0 h.1 (fits16 1 (omega arith)) no_imm refl (λ _. refl)
spelled_by (insn.Alu w op.Smod dst (Reg src)) h = one (form.AluReg w op.Mod) (form_at-opcode (form.AluReg w op.Mod))
    h.0 h.1 (fits16 1 (omega arith)) no_imm refl (λ _. refl)
spelled_by (insn.Alu w o dst (Reg src)) h = one (form.AluReg w o) (form_at-opcode (form.AluReg w o))
    h.0 h.1 (fits16 _ (omega arith)) no_imm refl (λ _. refl)
spelled_by (insn.Neg w dst) h =
    one (form.Neg w) (form_at-opcode (form.Neg w)) h no_reg no_offset no_imm refl (λ _. refl)
spelled_by (insn.Movsx W32 movsx.B32 dst src) h = tt
spelled_by (insn.Movsx W64 movsx.B8 dst src) h =
    one (form.AluReg W64 op.Mov) refl h.0 h.1 (fits16 8 (omega arith)) no_imm refl (λ _. refl)
spelled_by (insn.Movsx w _ dst src) h = one (form.AluReg w op.Mov) (form_at-opcode (form.AluReg w op.Mov)) h.0 h.1
    (fits16 _ (omega arith)) no_imm refl (λ _. refl)
spelled_by (insn.Endian o endian.B16 dst) h = one (form.Endian o) (form_at-opcode (form.Endian o)) h no_reg no_offset
    (fits32 16 (omega arith)) refl (λ _. refl)
spelled_by (insn.Endian o _ dst) h = one (form.Endian o) (form_at-opcode (form.Endian o)) h no_reg no_offset
    (fits32 _ (omega arith)) refl (λ _. refl)
spelled_by (insn.Ja offset) h = one form.Ja refl no_reg no_reg h no_imm refl (λ _. refl)
spelled_by (insn.Ja32 imm) h = one form.Ja32 refl no_reg no_reg no_offset h refl (λ _. refl)
spelled_by (insn.Jump w c dst (Imm imm) offset) h =
    one (form.JumpImm w c) (form_at-opcode (form.JumpImm w c)) h.0 no_reg h.2 h.1 refl (λ _. refl)
spelled_by (insn.Jump w c dst (Reg src) offset) h =
    one (form.JumpReg w c) (form_at-opcode (form.JumpReg w c)) h.0 h.1 h.2 no_imm refl (λ _. refl)
spelled_by (insn.Call Helper imm) h = one form.Call refl no_reg no_reg no_offset h refl (λ _. refl)
spelled_by (insn.Call k imm) h = one form.Call refl no_reg (omega arith) no_offset h refl (λ _. refl)
spelled_by insn.Exit h = one form.Exit refl no_reg no_reg no_offset no_imm refl (λ _. refl)
spelled_by (insn.Load z dst src offset) h =
    one (form.Load z) (form_at-opcode (form.Load z)) h.0 h.1 h.2 no_imm refl (λ _. refl)
spelled_by (insn.LoadSx size.Dw dst src offset) h = tt
spelled_by (insn.LoadSx z dst src offset) h =
    one (form.LoadSx z) (form_at-opcode (form.LoadSx z)) h.0 h.1 h.2 no_imm refl (λ _. refl)
spelled_by (insn.StoreImm z dst offset imm) h =
    one (form.StoreImm z) (form_at-opcode (form.StoreImm z)) h.0 no_reg h.1 h.2 refl (λ _. refl)
spelled_by (insn.Store z dst src offset) h =
    one (form.Store z) (form_at-opcode (form.Store z)) h.0 h.1 h.2 no_imm refl (λ _. refl)
spelled_by (insn.Atomic w (Simple simple.Add) dst src offset) h =
    one (form.Atomic w) (form_at-opcode (form.Atomic w)) h.0 h.1 h.2 no_imm refl (λ _. refl)
spelled_by (insn.Atomic w (Fetch simple.Add) dst src offset) h =
    one (form.Atomic w) (form_at-opcode (form.Atomic w)) h.0 h.1 h.2 (fits32 1 (omega arith)) refl (λ _. refl)
spelled_by (insn.Atomic w o dst src offset) h =
    one (form.Atomic w) (form_at-opcode (form.Atomic w)) h.0 h.1 h.2 (fits32 _ (omega arith)) refl (λ _. refl)
spelled_by (insn.LoadImm kind dst imm next) h = two_spelled kind (has_next kind) dst imm next h.0 h.1 h.2 refl

-- the slots of an instruction have bytes
pub spelling_has : (i : Insn) → InsnFits i → IfOk (spelling i) HaveBytes
spelling_has i h = IfOk-weaker (spelling i) (IsSpelledBy i) HaveBytes (λ ss by. by.have) (spelled_by i h)
