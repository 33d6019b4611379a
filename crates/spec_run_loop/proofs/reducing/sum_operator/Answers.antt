use Rattle.bpf_insn_types.specs.declared.insn.SimpleOp.{SimpleOp, TheVariants.{Add, Or, And, Xor}}
use Rattle.bpf_step_model.specs.Step.{map_operator}
use Rattle.spec_run_loop.{specs.SumOps.{AddUp}, proofs.Refusing.{refused}}
use Rattle.spec_run_loop.proofs.reducing.sum_operator.Goals as goal

pub returns-clause-none : goal.returns-clause-none
returns-clause-none c = go
  where
    go : (op : SimpleOp) → AddUp (map_operator op) c.args.ops.now c.args.from c.args.past → ⊥
    go Add = refused _ c.add_up.result c.add_up.ensures.1 c.if-add_up.false
    go Or = refused _ c.add_up-2.result c.add_up-2.ensures.1 c.if-add_up-2.false
    go And = refused _ c.add_up-3.result c.add_up-3.ensures.1 c.if-add_up-3.false
    go Xor = refused _ c.add_up-4.result c.add_up-4.ensures.1 c.if-add_up-4.false
