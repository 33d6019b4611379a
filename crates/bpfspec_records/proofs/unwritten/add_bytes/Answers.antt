use Rattle.std.proofs.Common.{◌+◌, append-nil, refl, rules, sym, ◌∙◌}
use Rattle.bpfspec_records.{specs.Units.{byte_record}, proofs.EachLaws.{each_begun, each_next}}
use Rattle.bpfspec_records.proofs.unwritten.add_bytes.Goals.{then-not-all_written+in_ok-add, else-not-all_written}
use Rattle.bpfspec_records.proofs.unwritten.add_bytes.Goals as goal

pub loop-at-init : goal.loop-at-init
loop-at-init c =
    each_begun (λ at. byte_record c.args.slot c.args.frame c.args.written.now (c.args.position + at))
    c.args.records.now.items

pub loop-at-preserved : goal.loop-at-preserved
loop-at-preserved c =
    let before = c.loop-at.records.items in
    let next = each_next (λ at. byte_record c.args.slot c.args.frame c.args.written.now (c.args.position + at))
    c.loop-at.at c.args.records.now.items before in
    elim c.if-not-all_written.branch [
      | then-not-all_written+in_ok-add w ↦
          rw w.records-is (next w.add.new.records.items c.loop-at.invariant
          (rw (sym c.all_written.ensures ∙ w.if-not-all_written.true) (search (rules, w.in_ok-add.ensures))))
      | else-not-all_written w ↦
          rw w.records-is (next before c.loop-at.invariant
          (rw (sym c.all_written.ensures ∙ w.if-not-all_written.false, append-nil before) refl))
    ]
