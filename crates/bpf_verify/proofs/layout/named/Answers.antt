use Rattle.std.proofs.Common.{◌≡◌, ◌+◌, ℕ, Bool, false, List, ◌++◌, [], take, length, get_or, ap, sym, ◌∙◌, arith}
use Rattle.std.{proofs.Common.{Option}, specs.{Prelude.{nat_eq}, List.{list_any, cons_option}}}
use Rattle.bpf_insn_types.specs.{declared.insn.Insn.{Insn}, Program.{slot_count, named_by, named_from}}
use Rattle.bpf_insn_types.proofs.ProgramLaws.{slot_count-more, slot_count-front, take-more, named_from-push}
use Rattle.bpf_verify.proofs.FlagLaws.{ends-within, named-marked, length-marked}
use Rattle.bpf_verify.proofs.layout.named.Goals as goal

pub named_by-requires : goal.named_by-requires
named_by-requires c =
    omega (
      arith,
      slot_count-front c.args.insns.now c.loop-insn.insn-index c.insn-item.result c.loop-insn-test.true
          c.insn-item.is,
      c.loop-insn.invariant.low,
      c.requires.slots,
    )

pub overflow_add-slot : goal.overflow_add-slot
overflow_add-slot c =
    let within = ends-within c.args.insns.now c.loop-insn.insn-index c.loop-insn.slot c.slots-slot.result c.args.count
    c.insn-item.result c.loop-insn-test.true c.insn-item.is c.loop-insn.invariant.low c.slots-slot.ensures
    c.requires.slots in
    omega (arith, within)

pub loop-insn-preserved : goal.loop-insn-preserved
loop-insn-preserved c =
    let front : List Insn = take c.loop-insn.insn-index c.args.insns.now in
    let slot_is : 0 + slot_count front ≡ c.loop-insn.slot = omega (arith, c.loop-insn.invariant.low) in
    record {
      low = omega (
        arith,
        slot_count-more c.args.insns.now c.loop-insn.insn-index c.insn-item.result
            c.loop-insn-test.true c.insn-item.is,
        c.slots-slot.ensures,
        c.loop-insn.invariant.low,
      );
      size = ap length c.mark.ensures ∙ length-marked c.loop-insn.marks.items c.named_by.result
          ∙ c.loop-insn.invariant.size;
      so_far = λ k h.
          ap (λ (m : List Bool). get_or m k false) c.mark.ensures
          ∙ named-marked (named_from 0 front) c.named_by.result c.loop-insn.marks.items k
          (omega (arith, c.loop-insn.invariant.size, h)) (c.loop-insn.invariant.so_far k h)
          ∙ ap (λ (t : Option ℕ). list_any (nat_eq k) (named_from 0 front ++ cons_option t [])) (c.named_by.ensures
          ∙ sym (ap (λ (s : ℕ). named_by s c.insn-item.result) slot_is))
          ∙ sym (ap (list_any (nat_eq k)) (ap (named_from 0) (take-more c.args.insns.now c.loop-insn.insn-index
          c.insn-item.result c.loop-insn-test.true c.insn-item.is)
          ∙ named_from-push 0 front c.insn-item.result));
    }
