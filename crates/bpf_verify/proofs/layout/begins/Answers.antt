use Rattle.std.proofs.Common.{◌≡◌, ◌<◌, ℕ, Bool, true, false, List, take, length, get_or, set, is_some, ap, sym, ◌∙◌}
use Rattle.std.proofs.{Common.{arith}, Math.ListN.{length-set}}
use Rattle.bpf_insn_types.specs.{declared.insn.Insn.{Insn}, Program.{slot_count, insn_at}}
use Rattle.bpf_insn_types.proofs.ProgramLaws.{slots_some, slot_count-more, slot_count-front, take-more}
use Rattle.bpf_verify.proofs.FlagLaws.{ends-within, begin-step}
use Rattle.bpf_verify.proofs.layout.begins.Goals as goal

pub overflow_add-slot : goal.overflow_add-slot
overflow_add-slot c =
    let within = ends-within c.args.insns.now c.loop-insn.insn-index c.loop-insn.slot c.slots-slot.result c.args.count
    c.insn-item.result c.loop-insn-test.true c.insn-item.is c.loop-insn.invariant.low c.slots-slot.ensures
    c.requires.slots in
    omega (arith, within)

pub loop-insn-preserved : goal.loop-insn-preserved
loop-insn-preserved c =
    let slot : ℕ = slot_count (take c.loop-insn.insn-index c.args.insns.now) in
    let marks : c.mark.new.marks.items ≡ set c.loop-insn.marks.items slot true =
    c.mark.ensures ∙ ap (λ (s : ℕ). set c.loop-insn.marks.items s true) c.loop-insn.invariant.low in
    let inside : slot < length c.loop-insn.marks.items =
    omega (
      arith,
      slot_count-front c.args.insns.now c.loop-insn.insn-index c.insn-item.result c.loop-insn-test.true
          c.insn-item.is,
      slots_some c.insn-item.result,
      c.requires.slots,
      c.loop-insn.invariant.size,
    ) in
    record {
      low = omega (
        arith,
        slot_count-more c.args.insns.now c.loop-insn.insn-index c.insn-item.result
            c.loop-insn-test.true c.insn-item.is,
        c.slots-slot.ensures,
        c.loop-insn.invariant.low,
      );
      size = ap length marks ∙ length-set c.loop-insn.marks.items slot true ∙ c.loop-insn.invariant.size;
      so_far = λ k.
          ap (λ (m : List Bool). get_or m k false) marks
          ∙ begin-step (take c.loop-insn.insn-index c.args.insns.now) c.insn-item.result c.loop-insn.marks.items
          c.loop-insn.invariant.so_far inside k
          ∙ sym (ap (λ (xs : List Insn). is_some (insn_at xs k)) (take-more c.args.insns.now c.loop-insn.insn-index
          c.insn-item.result c.loop-insn-test.true c.insn-item.is));
    }
