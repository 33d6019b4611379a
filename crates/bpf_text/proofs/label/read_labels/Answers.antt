use Rattle.std.proofs.Common.{length, ap, arith}
use Rattle.bpf_text_operands.specs.LabelTable.{label_named}
use Rattle.bpf_text.proofs.ReadingLaws.{labels_move, labels_end}
use Rattle.bpf_text.proofs.label.read_labels.Goals as goal

pub loop-line-preserved : goal.loop-line-preserved
loop-line-preserved c =
    let line = c.in-Some.line in
    record {
      same = λ name. labels_move (label_named c.loop-line.labels name) (label_named c.define_line.new.labels name) _
          c.loop-line.slot c.in_ok-slot.slot (line.number, line.content.now) c.next.new.self c.loop-line.lines name
          c.in_ok-slot.ensures.slot (c.in_ok-slot.ensures.labels name) c.in-Some.ensures.some
          (c.loop-line.invariant.same name);
      room = omega (arith, ap length c.in-Some.ensures.some, c.in_ok-slot.ensures.bound, c.loop-line.invariant.room);
    }

pub returns : goal.returns
returns c = λ name.
    labels_end (label_named c.loop-line.labels name) _ c.loop-line.slot c.loop-line.lines name c.in_default.ensures.none
    (c.loop-line.invariant.same name)
