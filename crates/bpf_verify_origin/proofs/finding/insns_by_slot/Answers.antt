use Rattle.std.proofs.Common.{refl, arith}
use Rattle.bpf_verify_origin.proofs.FindLaws.{by_slot-next, by_slot-all, by_slot-at}
use Rattle.bpf_verify_origin.proofs.finding.insns_by_slot.Goals as goal

pub loop-insn-init : goal.loop-insn-init
loop-insn-init c = rw c.new-table.ensures.items refl

pub loop-insn-preserved : goal.loop-insn-preserved
loop-insn-preserved c =
    by_slot-next c.loop-insn.table.items c.extend_from_slice.new.self.items _ c.args.insns.now c.loop-insn.insn-index
    c.slots.result c.insn-item.result c.loop-insn-test.true c.insn-item.is c.in_ok-extend_from_slice.ensures.items refl
    c.slots.ensures c.loop-insn.invariant

pub returns : goal.returns
returns c =
    let all = by_slot-all c.loop-insn.table.items c.args.insns.now c.loop-insn.insn-index
    (omega (arith, c.loop-insn-test.false)) in
    record { at = λ slot. rw (← by_slot-at c.args.insns.now slot, ← c.loop-insn.invariant, all) refl }
