use Rattle.std.proofs.{Common.{ℕ, ◌-◌, List, length, ap, sym, ◌∙◌, arith, Some}, Math.ListN.{length-set}}
use Rattle.std.proofs.lemmas.List.{length-replicate}
use Rattle.bpf_insn_types.{specs.Program.{slot_count}, proofs.ProgramLaws.{take-whole}}
use Rattle.bpf_verify_model.specs.Count.{through}
use Rattle.bpf_verify.specs.Counting.{most_at}
use Rattle.bpf_verify.proofs.CountLaws.{Back, back-index, counts-more, counts-none, get_or-zeros}
use Rattle.bpf_verify.proofs.counting.longest.Goals as goal

pub loop-left-init : goal.loop-left-init
loop-left-init c = record {
  within = omega arith;
  low = sym c.requires.slots
      ∙ sym (ap slot_count (take-whole c.args.insns.now (length c.args.insns.now) (omega arith)));
  size = ap length c.in_ok-longest.ensures.ok ∙ length-replicate c.args.count 0;
  counts = counts-none c.args.insns.now c.args.count c.in_ok-longest.longest.items c.requires.slots
      (λ k. get_or-zeros c.in_ok-longest.longest.items c.args.count k c.in_ok-longest.ensures.ok);
}

pub overflow_sub-slot : goal.overflow_sub-slot
overflow_sub-slot c =
    let back : Back c.args.insns.now c.args.count c.loop-left.slot (c.loop-left.slot - c.slots-slot.result)
    (c.loop-left.left - 1) c.index-insns-left.result =
    back-index c.args.insns.now c.args.count c.loop-left.slot c.slots-slot.result c.loop-left.left
    c.index-insns-left.result c.loop-left-test.true
    c.loop-left.invariant.within c.loop-left.invariant.low c.index-insns-left.is c.slots-slot.ensures c.requires.slots
    in
    omega (arith, back.step, c.slots-slot.ensures)

pub through-most-requires-clause-low : goal.through-most-requires-clause-low
through-most-requires-clause-low c =
    let back : Back c.args.insns.now c.args.count c.loop-left.slot (c.loop-left.slot - c.slots-slot.result)
    (c.loop-left.left - 1) c.index-insns-left.result =
    back-index c.args.insns.now c.args.count c.loop-left.slot c.slots-slot.result c.loop-left.left
    c.index-insns-left.result c.loop-left-test.true
    c.loop-left.invariant.within c.loop-left.invariant.low c.index-insns-left.is c.slots-slot.ensures c.requires.slots
    in
    omega (arith, back.step, back.some, back.inside, c.requires.few)

pub set-requires : goal.set-requires
set-requires c =
    let back : Back c.args.insns.now c.args.count c.loop-left.slot (c.loop-left.slot - c.slots-slot.result)
    (c.loop-left.left - 1) c.index-insns-left.result =
    back-index c.args.insns.now c.args.count c.loop-left.slot c.slots-slot.result c.loop-left.left
    c.index-insns-left.result c.loop-left-test.true
    c.loop-left.invariant.within c.loop-left.invariant.low c.index-insns-left.is c.slots-slot.ensures c.requires.slots
    in
    omega (arith, back.step, back.some, back.inside, c.loop-left.invariant.size)

pub loop-left-preserved : goal.loop-left-preserved
loop-left-preserved c =
    let back : Back c.args.insns.now c.args.count c.loop-left.slot (c.loop-left.slot - c.slots-slot.result)
    (c.loop-left.left - 1) c.index-insns-left.result =
    back-index c.args.insns.now c.args.count c.loop-left.slot c.slots-slot.result c.loop-left.left
    c.index-insns-left.result c.loop-left-test.true
    c.loop-left.invariant.within c.loop-left.invariant.low c.index-insns-left.is c.slots-slot.ensures c.requires.slots
    in
    record {
      within = omega (arith, c.loop-left.invariant.within);
      low = back.low;
      size = ap length c.set.ensures ∙ length-set c.loop-left.longest.items (c.loop-left.slot - c.slots-slot.result)
          c.through-most.result ∙ c.loop-left.invariant.size;
      counts = counts-more c.args.insns.now c.args.count c.loop-left.slot (c.loop-left.slot - c.slots-slot.result)
          (c.loop-left.left - 1) c.through-most.result c.index-insns-left.result
          c.loop-left.longest.items c.set.new.longest.items c.requires.forward c.requires.slots c.requires.few back
          c.loop-left.invariant.size c.loop-left.invariant.counts
          (c.through-most.ensures ∙ ap (λ (xs : List ℕ). through (most_at xs) (c.loop-left.slot - c.slots-slot.result)
          (Some c.index-insns-left.result)) c.as_slice.ensures.value) c.set.ensures;
    }
