use Rattle.std.proofs.Common.{ℕ, ◌+◌, List, refl, ap, sym, ◌∙◌, arith, Option, is_some}
use Rattle.bpf_insn_types.specs.{declared.insn.Insn.{Insn}, Program.{insn_at, slot_count}}
use Rattle.bpf_insn_types.proofs.ProgramLaws.{slots_two}
use Rattle.bpf_verify_model.specs.Accepted.{BrokenRule}
use Rattle.bpf_verify_origin.specs.Inspected.{is_up_to}
use Rattle.bpf_verify.proofs.StateLaws.{Here, here-index}
use Rattle.bpfspec_records.proofs.UnitLaws.{insns-more, slot-small}
use Rattle.bpfspec_records.proofs.units.add_insns.Goals as goal

pub add_insn-requires-clause-starts : goal.add_insn-requires-clause-starts
add_insn-requires-clause-starts c =
    let at : Here c.args.insns.now (slot_count c.args.insns.now) c.loop-insn.slot c.loop-insn.insn-index
    c.insn-item.result =
    here-index c.args.insns.now (slot_count c.args.insns.now) c.loop-insn.slot c.loop-insn.insn-index c.insn-item.result
    refl c.loop-insn-test.true c.insn-item.is c.loop-insn.invariant.low in
    ap (λ (is : List Insn). insn_at is c.loop-insn.slot) (sym c.requires) ∙ at.here

pub overflow_add-slot : goal.overflow_add-slot
overflow_add-slot c =
    let at : Here c.args.insns.now (slot_count c.args.insns.now) c.loop-insn.slot c.loop-insn.insn-index
    c.insn-item.result =
    here-index c.args.insns.now (slot_count c.args.insns.now) c.loop-insn.slot c.loop-insn.insn-index c.insn-item.result
    refl c.loop-insn-test.true c.insn-item.is c.loop-insn.invariant.low in
    omega (
      arith,
      c.slots-slot.ensures,
      slots_two c.insn-item.result,
      slot-small c.args.inspection.now c.loop-insn.slot
          (ap (λ (is : List Insn). is_some (insn_at is c.loop-insn.slot)) (sym c.requires) ∙ ap is_some at.here)
          (ap (λ (f : Option BrokenRule). is_up_to f c.loop-insn.slot) (sym c.fault-fault.ensures)
          ∙ sym c.is_up_to.ensures ∙ c.if-not-is_up_to.false),
    )

pub loop-insn-preserved : goal.loop-insn-preserved
loop-insn-preserved c =
    let at : Here c.args.insns.now (slot_count c.args.insns.now) c.loop-insn.slot c.loop-insn.insn-index
    c.insn-item.result =
    here-index c.args.insns.now (slot_count c.args.insns.now) c.loop-insn.slot c.loop-insn.insn-index c.insn-item.result
    refl c.loop-insn-test.true c.insn-item.is c.loop-insn.invariant.low in
    record {
      low = ap (λ (n : ℕ). c.loop-insn.slot + n) c.slots-slot.ensures ∙ at.more;
      so_far = insns-more c.args.with_values c.args.inspection.now c.args.insns.now c.loop-insn.slot
          (c.loop-insn.slot + c.slots-slot.result) c.loop-insn.insn-index c.insn-item.result
          c.loop-insn.records.items c.add_insn.new.records.items _ c.loop-insn-test.true c.insn-item.is
          (ap (λ (f : Option BrokenRule). is_up_to f c.loop-insn.slot) (sym c.fault-fault.ensures)
          ∙ sym c.is_up_to.ensures ∙ c.if-not-is_up_to.false)
          (ap (λ (n : ℕ). c.loop-insn.slot + n) c.slots-slot.ensures) c.loop-insn.invariant.so_far
          c.in_ok-add_insn.ensures;
    }
