use Rattle.std.proofs.Common.{ℕ, ◌+◌, ◌<◌, ◌≤◌, ◌≡◌, length, List, refl, ap, sym, ◌∙◌, subst, arith}
use Rattle.std.proofs.{Math.ListN.{length-set}, lemmas.List.{length-replicate}}
use Rattle.bpf_step_ir.specs.{declared.ir_op.IrOp.TheVariants.{Stop}, Translation.{op_at}}
use Rattle.bpf_insn_types.{specs.Program.{slot_count}, proofs.ProgramLaws.{take-whole}}
use Rattle.bpf_verify.{specs.Passing.{program_of, Passed, Translated}, proofs.passing.pass.Goals.{After-insn-item}}
use Rattle.bpf_verify.proofs.PassLaws.{passed-none, passed-over, at-index, At, fault-later}
use Rattle.bpf_verify.proofs.OpLaws.{translated-none, translated-more, are-ops}
use Rattle.bpf_verify.proofs.passing.pass.Goals as goal

pub loop-insn-init : goal.loop-insn-init
loop-insn-init c = record {
  low = omega arith;
  size = c.in_ok-table.ensures.ok.size;
  passed = subst (λ (targets : List ℕ). Passed (program_of c.args.code.now) 0 targets c.in_ok-table.table.items)
      (sym c.new-targets.ensures.items)
      (passed-none (program_of c.args.code.now) c.in_ok-table.table.items (λ t h. c.in_ok-table.ensures.ok.known t
      (omega (arith, h, c.in_ok-table.ensures.ok.size))));
  room = ap length c.in_ok-ops.ensures.ok ∙ length-replicate c.args.count Stop;
  translated = translated-none (program_of c.args.code.now) c.args.count c.in_ok-ops.ops.items c.in_ok-ops.ensures.ok;
}

-- the instruction is at its slot
stands : (c : After-insn-item) → At c.args.code.now.insns.now c.args.code.now.layout.now c.args.count c.loop-insn.slot
    c.loop-insn.insn-index c.insn-item.result
stands c = at-index c.args.code.now.insns.now c.args.code.now.insns.now c.args.code.now.layout.now c.args.count
    c.loop-insn.slot c.loop-insn.insn-index c.insn-item.result c.requires.layout c.requires.slots c.requires.few refl
    c.loop-insn-test.true c.insn-item.is c.loop-insn.invariant.low

pub visit-requires-clause-stands : goal.visit-requires-clause-stands
visit-requires-clause-stands c =
    (stands (goal.at.visit-requires-clause-stands c).After-insn-item).stands

pub visit-requires-clause-here : goal.visit-requires-clause-here
visit-requires-clause-here c =
    (stands (goal.at.visit-requires-clause-here c).After-insn-item).here

pub visit-requires-clause-within : goal.visit-requires-clause-within
visit-requires-clause-within c =
    let at = stands (goal.at.visit-requires-clause-within c).After-insn-item in
    let within : c.loop-insn.slot < length c.loop-insn.table.items =
    omega (arith, at.inside, at.some, c.loop-insn.invariant.size) in
    within

pub visit-requires-clause-room : goal.visit-requires-clause-room
visit-requires-clause-room c =
    let at = stands (goal.at.visit-requires-clause-room c).After-insn-item in
    let within : c.loop-insn.slot < length c.loop-insn.ops.items =
    omega (arith, at.inside, at.some, c.loop-insn.invariant.room) in
    within

pub returns-in-Err-clause-err : goal.returns-in-Err-clause-err
returns-in-Err-clause-err c =
    let at = stands (goal.at.returns-in-Err-clause-err c).After-insn-item in
    fault-later (program_of c.args.code.now) (c.loop-insn.slot + 1) c.args.count c.in-Err.error c.in-Err.ensures.err
    (omega (arith, at.inside, at.some))

pub overflow_add-slot : goal.overflow_add-slot
overflow_add-slot c =
    let at = stands (goal.at.overflow_add-slot c).After-insn-item in
    omega (arith, at.inside, c.requires.few, c.slots-slot.ensures)

pub loop-insn-preserved : goal.loop-insn-preserved
loop-insn-preserved c =
    let at = stands (goal.at.loop-insn-preserved c).After-insn-item in
    record {
      low = ap (λ (n : ℕ). c.loop-insn.slot + n) c.slots-slot.ensures ∙ at.more;
      size = c.in-Ok.ensures.size ∙ c.loop-insn.invariant.size;
      passed = passed-over (program_of c.args.code.now) c.loop-insn.slot c.slots-slot.result c.insn-item.result
          c.visit.new.targets.items c.visit.new.table.items
          c.in-Ok.ensures.ok c.slots-slot.ensures at.inner;
      room = ap length c.in-Ok.ensures.ops ∙ length-set c.loop-insn.ops.items c.loop-insn.slot
          (op_at (program_of c.args.code.now) c.loop-insn.slot) ∙ c.loop-insn.invariant.room;
      translated = translated-more (program_of c.args.code.now) c.loop-insn.slot c.slots-slot.result
          c.loop-insn.ops.items c.visit.new.ops.items c.loop-insn.invariant.translated
          (omega (arith, at.inside, at.some, c.loop-insn.invariant.room)) (omega (arith, at.some, c.slots-slot.ensures))
          (λ k m h. at.inner k m (omega (arith, h, c.slots-slot.ensures))) c.in-Ok.ensures.ops;
    }

pub returns-clause-ops : goal.returns-clause-ops
returns-clause-ops c =
    let whole : length c.args.code.now.insns.now ≤ c.loop-insn.insn-index = omega (arith, c.loop-insn-test.false) in
    let passed : c.loop-insn.slot ≡ c.args.count =
    c.loop-insn.invariant.low ∙ ap slot_count (take-whole c.args.code.now.insns.now c.loop-insn.insn-index whole)
    ∙ c.requires.slots in
    are-ops (program_of c.args.code.now) c.args.count c.loop-insn.ops.items
    (subst (λ (n : ℕ). Translated (program_of c.args.code.now) n c.loop-insn.ops.items) passed
    c.loop-insn.invariant.translated)
    c.loop-insn.invariant.room c.requires.slots
