use Rattle.std.proofs.Common.{◌≡◌, ℕ, ◌∷◌, All, List, Option, map, length, refl, ap, sym, ◌∙◌, subst, arith}
use Rattle.bpf_insn_types.specs.{declared.insn.Insn.{Insn}, Values.{AreInsns}, Limits.{AreSizes}}
use Rattle.bpf_insn_types.specs.Program.{Program, slot_count, callback_starts}
use Rattle.bpf_verify_model.specs.{Accepted.{BrokenRule, fault_within}, Count.{longest, JumpsForward}}
use Rattle.bpf_verify_model.proofs.JumpLaws.{jumps_forward, first_fault-within, program-is, sizes-fit}
use Rattle.bpf_step_ir.specs.{declared.ir_op.IrOp.{IrOp}, Translation.{AreOps}}
use Rattle.bpf_verify.{specs.{Passing.{IsFault}, Rows.{AreRows}}, proofs.StartLaws.{starts-few}}
use Rattle.bpf_verify.proofs.accepting.verify.Goals as goal

pub returns-in-Err-clause-err : goal.returns-in-Err-clause-err
returns-in-Err-clause-err c =
    subst (λ (f : Option BrokenRule). IsFault f c.in-Err.error)
    (sym (first_fault-within c.args.unit c.in_ok-count.count c.in_ok-count.ensures.ok))
    (subst (λ (program : Program). IsFault (fault_within program c.in_ok-count.count) c.in-Err.error)
    (program-is c.args.unit c.as_slice.result.now c.as_slice-2.result.now (c.as_slice.ensures.value
    ∙ ap (λ (p : Program). p.sizes) c.unit.view_is) (c.as_slice-2.ensures.value
    ∙ ap (λ (p : Program). p.insns) c.unit.view_is)) c.in-Err.ensures.err)

pub counts_of-requires-clause-forward : goal.counts_of-requires-clause-forward
counts_of-requires-clause-forward c =
    subst JumpsForward (sym (c.deref-2.ensures.value ∙ ap (λ (p : Program). p.insns) c.unit.view_is))
    (jumps_forward c.args.unit c.in_ok-count.count c.in_ok-count.ensures.ok.counted
    (ap (λ (program : Program). fault_within program c.in_ok-count.count)
    (sym (program-is c.args.unit c.as_slice.result.now c.as_slice-2.result.now (c.as_slice.ensures.value
    ∙ ap (λ (p : Program). p.sizes) c.unit.view_is) (c.as_slice-2.ensures.value
    ∙ ap (λ (p : Program). p.insns) c.unit.view_is))) ∙ c.in-Ok.ensures.ok))

pub invariant_of-result : goal.invariant_of-result
invariant_of-result c =
    let starts : c.in_ok-layout.layout.starts.items ≡ callback_starts c.args.unit.insns =
    c.in_ok-layout.ensures.ok.starts ∙ ap callback_starts (c.deref.ensures.value
    ∙ ap (λ (p : Program). p.insns) c.unit.view_is) in
    record {
      accepted = first_fault-within c.args.unit c.in_ok-count.count c.in_ok-count.ensures.ok
          ∙ ap (λ (program : Program). fault_within program c.in_ok-count.count)
          (sym (program-is c.args.unit c.as_slice.result.now c.as_slice-2.result.now (c.as_slice.ensures.value
          ∙ ap (λ (p : Program). p.sizes) c.unit.view_is) (c.as_slice-2.ensures.value
          ∙ ap (λ (p : Program). p.insns) c.unit.view_is))) ∙ c.in-Ok.ensures.ok;
      insns_fit = subst AreInsns (c.deref-4.ensures.value ∙ ap (λ (p : Program). p.insns) c.unit.view_is)
          c.insns_fit.ensures;
      sizes_fit = sizes-fit c.args.unit.sizes (slot_count c.args.unit.insns) c.in_ok-count.ensures.ok.small;
      starts_are = starts;
      counts_are = c.in_ok-counts.ensures.ok
          ∙ ap (λ (l : List Insn). map (longest l (slot_count l)) (0 ∷ c.deref-3.result.now)) (c.deref-2.ensures.value
          ∙ ap (λ (p : Program). p.insns) c.unit.view_is)
          ∙ ap (λ (l : List ℕ). map (longest c.args.unit.insns (slot_count c.args.unit.insns)) (0 ∷ l))
          c.deref-3.ensures.value;
      ops_are = subst (λ (program : Program). AreOps program c.in-Ok.ops.items)
          (program-is c.args.unit c.as_slice.result.now c.as_slice-2.result.now (c.as_slice.ensures.value
          ∙ ap (λ (p : Program). p.sizes) c.unit.view_is) (c.as_slice-2.ensures.value
          ∙ ap (λ (p : Program). p.insns) c.unit.view_is))
          c.in-Ok.ensures.ops;
      fast_are = c.in_ok-fast.ensures.ok;
      rows_are = subst (λ (ops : List IrOp). All (AreRows ops) c.in_ok-rows.rows.items) c.deref-5.ensures.value
          c.in_ok-rows.ensures.ok;
      few = omega (
        arith,
        ap length starts,
        starts-few c.args.unit.insns (slot_count c.args.unit.insns),
        c.in_ok-count.ensures.ok.counted,
        c.in_ok-count.ensures.ok.few,
      );
    }

pub returns-clause-ok : goal.returns-clause-ok
returns-clause-ok c = (
  refl,
  first_fault-within c.args.unit c.in_ok-count.count c.in_ok-count.ensures.ok
      ∙ ap (λ (program : Program). fault_within program c.in_ok-count.count)
      (sym (program-is c.args.unit c.as_slice.result.now c.as_slice-2.result.now (c.as_slice.ensures.value
      ∙ ap (λ (p : Program). p.sizes) c.unit.view_is) (c.as_slice-2.ensures.value
      ∙ ap (λ (p : Program). p.insns) c.unit.view_is))) ∙ c.in-Ok.ensures.ok,
)

pub pass-requires-clause-sizes : goal.pass-requires-clause-sizes
pass-requires-clause-sizes c =
    subst AreSizes (sym (c.as_slice.ensures.value ∙ ap (λ (p : Program). p.sizes) c.unit.view_is))
    (sizes-fit c.args.unit.sizes (slot_count c.args.unit.insns) c.in_ok-count.ensures.ok.small)

pub fused-requires : goal.fused-requires
fused-requires c = omega (
  arith,
  c.in-Ok.ensures.ops.count,
  ap (λ (p : Program). slot_count p.insns)
      (program-is c.args.unit c.as_slice.result.now c.as_slice-2.result.now (c.as_slice.ensures.value
      ∙ ap (λ (p : Program). p.sizes) c.unit.view_is) (c.as_slice-2.ensures.value
      ∙ ap (λ (p : Program). p.insns) c.unit.view_is)),
  c.in_ok-count.ensures.ok.counted,
  c.in_ok-count.ensures.ok.few,
)

pub rows_of-requires : goal.rows_of-requires
rows_of-requires c = omega (
  arith,
  ap length c.deref-5.ensures.value,
  c.in-Ok.ensures.ops.count,
  ap (λ (p : Program). slot_count p.insns)
      (program-is c.args.unit c.as_slice.result.now c.as_slice-2.result.now (c.as_slice.ensures.value
      ∙ ap (λ (p : Program). p.sizes) c.unit.view_is) (c.as_slice-2.ensures.value
      ∙ ap (λ (p : Program). p.insns) c.unit.view_is)),
  c.in_ok-count.ensures.ok.counted,
  c.in_ok-count.ensures.ok.few,
)
