use Rattle.std.proofs.Common.{◌≤◌, ◌+◌, take, arith}
use Rattle.bpf_insn_types.{specs.Program.{slot_count}, proofs.ProgramLaws.{slot_count-more, slot_count-front}}
use Rattle.bpf_insn_types.proofs.limits.slot_count.Goals as goal

pub returns-then-total-gt-MAX_SLOTS-clause-none : goal.returns-then-total-gt-MAX_SLOTS-clause-none
returns-then-total-gt-MAX_SLOTS-clause-none c =
    let front : slot_count (take c.loop-insn.insn-index c.args.insns.now) + c.slots-total.result ≤ slot_count
    c.args.insns.now =
    omega (
      arith,
      slot_count-front c.args.insns.now c.loop-insn.insn-index c.insn-item.result c.loop-insn-test.true
          c.insn-item.is,
      c.slots-total.ensures,
    ) in
    omega (arith, c.loop-insn.invariant.so_far)

pub loop-insn-preserved : goal.loop-insn-preserved
loop-insn-preserved c = record {
  so_far = omega (
    arith,
    slot_count-more c.args.insns.now c.loop-insn.insn-index c.insn-item.result
        c.loop-insn-test.true c.insn-item.is,
    c.slots-total.ensures,
    c.loop-insn.invariant.so_far,
  );
  few = c.if-total-gt-MAX_SLOTS.false;
}
