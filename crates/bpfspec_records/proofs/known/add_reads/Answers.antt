use Rattle.std.proofs.Common.{append-nil, refl, sym, ◌∙◌}
use Rattle.bpfspec_records.{specs.Units.{read_record}, proofs.EachLaws.{each_begun, read_next}}
use Rattle.bpfspec_records.proofs.known.add_reads.Goals.{then-reads+in_ok-add, else-reads}
use Rattle.bpfspec_records.proofs.known.add_reads.Goals as goal

pub loop-number-init : goal.loop-number-init
loop-number-init c =
    each_begun (read_record c.args.inspection.now c.args.slot c.args.insn.now) c.args.records.now.items

pub loop-number-preserved : goal.loop-number-preserved
loop-number-preserved c =
    let before = c.loop-number.records.items in
    let next = read_next c.args.inspection.now c.args.slot c.args.insn.now c.loop-number.number c.reg-register.result
    c.args.records.now.items before in
    elim c.if-reads.branch [
      | then-reads+in_ok-add w ↦
          rw w.records-is (next w.add.new.records.items c.loop-number.invariant c.reg-register.ensures
          (rw (sym c.reads.ensures ∙ w.if-reads.true, ← w.source-source.ensures.is) w.in_ok-add.ensures))
      | else-reads w ↦
          rw w.records-is (next before c.loop-number.invariant c.reg-register.ensures
          (rw (sym c.reads.ensures ∙ w.if-reads.false, append-nil before) refl))
    ]
