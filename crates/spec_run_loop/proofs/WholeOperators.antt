-- By which operators operations add up.
use Rattle.std.proofs.Common.{◌≡◌, ℕ, true, List, refl, subst}
use Rattle.array_maps.specs.declared.access.Op.{Op, TheVariants.{Add, Or, And, Xor, AddH}}
use Rattle.bpf_insn_types.specs.declared.insn.{Width.TheVariants.{W64}, SimpleOp.{SimpleOp}}
use Rattle.bpf_insn_types.specs.{declared.insn.AtomicOp.TheVariants.{Simple}, Program.{Program}}
use Rattle.bpf_insn_types.specs.declared.insn.SimpleOp.TheVariants as simple
use Rattle.bpf_step_model.specs.{State.{LoopCall}, Step.{map_operator}}
use Rattle.bpf_step_ir.specs.{declared.ir_op.IrOp.{IrOp, TheVariants.{ChangeElement}}, PlainRun.{op_of}}
use Rattle.bpf_step_ir.specs.Translation.{AreOps}
use Rattle.spec_run_loop.specs.{SumOps.{AddUp, keeps_to}, SumLoops.{AddsUp, function_end}}

-- no whole element is added to by halves
keeps_half : (at : IrOp) → keeps_to AddH at ≡ true → keeps_to Add at ≡ true
keeps_half (ChangeElement W64 (Simple simple.Add) base offset src) e = refl
keeps_half at e = e

-- what adds up by an operator does so by one of instructions
simple_of : Op → SimpleOp
simple_of Add = simple.Add
simple_of Or = simple.Or
simple_of And = simple.And
simple_of Xor = simple.Xor
simple_of AddH = simple.Add

as_simple : (op : Op) (ops : List IrOp) (from past : ℕ) → AddUp op ops from past
    → AddUp (map_operator (simple_of op)) ops from past
unfolding simple_of
as_simple Add ops from past all = all
as_simple Or ops from past all = all
as_simple And ops from past all = all
as_simple Xor ops from past all = all
as_simple AddH ops from past all = λ slot low high. record {
  keeps = keeps_half (op_of ops slot) (all slot low high).keeps;
  stays = (all slot low high).stays;
}

pub adds_up : (program : Program) (call : LoopCall) (ops : List IrOp) → AreOps program ops → (op : Op)
    (start past : ℕ) → start ≡ call.callback → past ≡ function_end program call.callback → AddUp op ops start past
    → AddsUp program call
adds_up program call ops are op start past at end all = record {
  op = simple_of op;
  ops = ops;
  are = are;
  sums = as_simple op ops call.callback (function_end program call.callback)
      (subst (λ (to : ℕ). AddUp op ops call.callback to) end
      (subst (λ (slot : ℕ). AddUp op ops slot past) at all));
}
