use Rattle.std.proofs.{Common.{length, ap, ◌∙◌, arith}, lemmas.List.{length-replicate}}
use Rattle.bpf_insn_types.specs.Program.{Program}
use Rattle.bpf_verify_origin.specs.declared.inflow.Inflow.TheVariants.{Nowhere}
use Rattle.bpf_verify_origin.proofs.{FaultLaws.{passed-within}, InflowLaws.{inflows-none, flow-here, inflows-more}}
use Rattle.bpf_verify_origin.proofs.InflowLaws.{all-inflows}
use Rattle.bpf_verify_origin.proofs.inflows.inflows.Goals as goal

pub loop-slot-init : goal.loop-slot-init
loop-slot-init c = record {
  size = ap length c.in_ok-table.ensures ∙ length-replicate c.args.count Nowhere;
  from = rw c.in_ok-table.ensures (inflows-none c.args.unit.now c.args.count);
}

pub outflow-out-requires : goal.outflow-out-requires
outflow-out-requires c =
    omega (
      arith,
      passed-within c.args.unit.now,
      c.requires.passed,
      c.requires.slots,
      c.requires.few,
      c.loop-slot-test.true,
    )

pub loop-slot-preserved : goal.loop-slot-preserved
loop-slot-preserved c =
    let program = c.args.unit.now in
    let slot = c.loop-slot.slot in
    record {
      size = c.mark-in-loop-slot.ensures.size ∙ c.mark.ensures.size ∙ c.loop-slot.invariant.size;
      from = inflows-more program slot c.outflow-out.result c.loop-slot.table.items c.mark.new.table.items
          c.mark-in-loop-slot.new.table.items c.loop-slot.invariant.from
          ((rw (c.deref.ensures.value, ap (λ (p : Program). p.sizes) c.unit.view_is) at c.outflow-out.ensures)
          ∙ flow-here program slot c.insn_in.result c.state_in-before.result
          (c.insn_in.ensures ∙ c.requires.insns.at slot)
          (λ starts. c.state_in-before.ensures
          ∙ c.requires.states.at slot (omega (arith, c.loop-slot-test.true)) starts))
          c.mark.ensures.marked c.mark.ensures.size c.mark-in-loop-slot.ensures.marked
          c.mark-in-loop-slot.ensures.size;
    }
