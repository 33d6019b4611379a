-- How far operations that add up were found.
use Rattle.std.proofs.Common.{◌≡◌, ℕ, ◌+◌, ◌≤◌, ◌<◌, inl, inr, List, length, slice_index_or, sym}
use Rattle.std.proofs.{Common.{◌∙◌, subst, arith}, lemmas.{Bool.{cases_eq}, List.{get_or_default}}}
use Rattle.array_maps.specs.declared.access.Op.{Op}
use Rattle.bpf_step_ir.specs.{declared.ir_op.IrOp.{IrOp, TheVariants.{Stop}}, PlainRun.{op_of}}
use Rattle.spec_run_loop.specs.SumOps.{IsSumOp, AddUp}

module _ (op : Op) (ops : List IrOp) (from past : ℕ) where
  -- all from the first slot up to, and without, one
  abbrev pub SumsTo : ℕ → Type 0
  SumsTo reached = (slot : ℕ) → from ≤ slot → slot < reached → IsSumOp op from past slot (op_of ops slot)

  -- what was read at a slot is the operation there
  pub is_read : (slot : ℕ) (at : IrOp) → slot < length ops → at ≡ slice_index_or ops slot at → at ≡ op_of ops slot
  is_read slot at inside read = read ∙ get_or_default ops slot at Stop inside

  -- one more
  pub sums_more : (reached : ℕ) → SumsTo reached → IsSumOp op from past reached (op_of ops reached)
      → SumsTo (reached + 1)
  sums_more reached before one slot low early = elim (cases_eq slot reached) [
    | inl same ↦ subst (λ (s : ℕ). IsSumOp op from past s (op_of ops s)) (sym same) one
    | inr other ↦ before slot low (omega arith)
  ]

  -- none yet, and all
  pub sums_none : SumsTo from
  sums_none slot low early = absurd (omega (arith, low, early))

  pub sums_all : (reached : ℕ) → past ≤ reached → SumsTo reached → AddUp op ops from past
  sums_all reached over before slot low early = before slot low (omega (arith, early, over))
