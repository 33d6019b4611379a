-- The opcode tables both ways, by computation.
use Rattle.std.proofs.Common.{◌≡◌, ℕ, zero, suc, ◌<◌, Bool, true, Option, Some, None, refl, sym, subst, arith}
use Rattle.std.proofs.{Common.{eqb, inl, inr}, lemmas.Bool.{eqb-true, cases_eq, and_parts}}
use Rattle.std.specs.Prelude.{IfSome, ◌&&◌}
use Rattle.bpf_insn_types.specs.declared.insn.Width.TheVariants.{W32, W64}
use Rattle.bpf_insn_types.specs.declared.insn.Size.TheVariants as size
use Rattle.bpf_insn_types.specs.declared.insn.AluOp.TheVariants as op
use Rattle.bpf_insn_types.specs.declared.insn.ByteOrder.TheVariants as order
use Rattle.bpf_insn_types.specs.declared.insn.Compare.TheVariants as compare
use Rattle.bpf_insn.specs.{declared.form.Form.{Form}, Opcode.{opcode, form_at}}
use Rattle.bpf_insn.specs.declared.form.Form.TheVariants as form

-- the form that an opcode says, if one does, has this opcode
abbrev agrees_with : Option Form → ℕ → Bool
agrees_with None n = true
agrees_with (Some f) n = eqb (opcode f) n

abbrev agrees : ℕ → Bool
agrees n = agrees_with (form_at n) n

abbrev all_below : (ℕ → Bool) → ℕ → Bool
all_below p zero = true
all_below p (suc n) = p n && all_below p n

below : (p : ℕ → Bool) (n k : ℕ) → all_below p n ≡ true → k < n → p k ≡ true
below p zero k h lt = absurd (omega (arith, lt))
below p (suc n) k h lt =
    let parts = and_parts (p n) (all_below p n) h in
    elim (cases_eq k n) [
      | inl same ↦ subst (λ (x : ℕ). p x ≡ true) (sym same) parts.0
      | inr other ↦ below p n k parts.1 (omega (arith, lt, other))
    ]

all_agree : all_below agrees 256 ≡ true
all_agree = refl

is_opcode : (o : Option Form) (n : ℕ) → agrees_with o n ≡ true → IfSome o (λ f. opcode f ≡ n)
is_opcode None n h = tt
is_opcode (Some f) n h = eqb-true (opcode f) n h

-- the form that a byte says has that byte as its opcode
pub opcode-form_at : (n : ℕ) → n < 256 → IfSome (form_at n) (λ f. opcode f ≡ n)
opcode-form_at n lt = is_opcode (form_at n) n (below agrees 256 n all_agree lt)

-- an opcode says its form; a sign-extending load of eight bytes has none, and signed operations have that of plain ones
abbrev pub SaysItsForm : Form → Type 0
SaysItsForm (form.LoadSx size.Dw) = Unit {0}
SaysItsForm (form.AluImm w op.Sdiv) = Unit {0}
SaysItsForm (form.AluImm w op.Smod) = Unit {0}
SaysItsForm (form.AluReg w op.Sdiv) = Unit {0}
SaysItsForm (form.AluReg w op.Smod) = Unit {0}
SaysItsForm f = form_at (opcode f) ≡ Some f

pub form_at-opcode : (f : Form) → SaysItsForm f
form_at-opcode (form.LoadSx size.Dw) = tt
form_at-opcode (form.AluImm W32 op.Add) = refl
form_at-opcode (form.AluImm W64 op.Add) = refl
form_at-opcode (form.AluReg W32 op.Add) = refl
form_at-opcode (form.AluReg W64 op.Add) = refl
form_at-opcode (form.AluImm w op.Sdiv) = tt
form_at-opcode (form.AluImm w op.Smod) = tt
form_at-opcode (form.AluReg w op.Sdiv) = tt
form_at-opcode (form.AluReg w op.Smod) = tt
form_at-opcode (form.Neg W32) = refl
form_at-opcode (form.Endian order.Le) = refl
form_at-opcode (form.JumpImm W32 compare.Eq) = refl
form_at-opcode (form.JumpImm W64 compare.Eq) = refl
form_at-opcode (form.JumpReg W32 compare.Eq) = refl
form_at-opcode (form.JumpReg W64 compare.Eq) = refl
form_at-opcode (form.Load size.B) = refl
form_at-opcode (form.StoreImm size.B) = refl
form_at-opcode (form.Store size.B) = refl
form_at-opcode (form.Atomic W32) = refl
form_at-opcode _ = refl
