use Rattle.loop_core_model.specs.declared.loop_test.Test.TheVariants.{Flow}
use Rattle.loop_core_witness.proofs.PairLaws.{no_writer, none_follows, one_follows, flow_follows}
use Rattle.loop_core_witness.proofs.pairing.flow_pair.Goals as goal

pub returns-in_default : goal.returns-in_default
returns-in_default c =
    no_writer c.requires.counts c.args.search.now.element Flow (rw c.in_default.is at c.in_ok-writer.ensures)

pub returns-in_default-2 : goal.returns-in_default-2
returns-in_default-2 c =
    let element = c.args.search.now.element in
    let first = rw c.in-Some.is at c.in_ok-writer.ensures in
    none_follows c.requires.counts element c.in-Some.writer first Flow
    (flow_follows c.requires.counts element c.in-Some.writer first) (rw c.in_default-2.is at c.in_ok-reader.ensures)

pub returns : goal.returns
returns c =
    let element = c.args.search.now.element in
    let first = rw c.in-Some.is at c.in_ok-writer.ensures in
    one_follows c.requires.counts element c.in-Some.writer first Flow
    (flow_follows c.requires.counts element c.in-Some.writer first) c.in-Some-2.reader
    (rw c.in-Some-2.is at c.in_ok-reader.ensures)
