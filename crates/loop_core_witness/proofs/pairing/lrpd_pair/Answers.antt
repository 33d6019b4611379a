use Rattle.loop_core_model.specs.declared.loop_test.Test.TheVariants.{Lrpd}
use Rattle.loop_core_witness.proofs.PairLaws.{no_writer, no_reader, none_follows, one_follows, two_found, writer_found}
use Rattle.loop_core_witness.proofs.PairLaws.{lrpd_follows}
use Rattle.loop_core_witness.proofs.pairing.lrpd_pair.Goals as goal

pub returns-in_default : goal.returns-in_default
returns-in_default c =
    no_reader c.requires.counts c.args.search.now.element Lrpd (rw c.in_default.is at c.in_ok-reader.ensures)

pub returns-in_default-2 : goal.returns-in_default-2
returns-in_default-2 c =
    no_writer c.requires.counts c.args.search.now.element Lrpd (rw c.in_default-2.is at c.in_ok-writer.ensures)

pub returns-then-writer-reader : goal.returns-then-writer-reader
returns-then-writer-reader c =
    two_found c.requires.counts c.args.search.now.element c.in-Some-2.writer
    (rw c.in-Some-2.is at c.in_ok-writer.ensures) c.in-Some.reader (rw c.in-Some.is at c.in_ok-reader.ensures)
    c.if-writer-reader.true

pub returns-in-Some-3 : goal.returns-in-Some-3
returns-in-Some-3 c =
    writer_found c.requires.counts c.args.search.now.element c.in-Some-2.writer
    (rw c.in-Some-2.is at c.in_ok-writer.ensures) c.in-Some.reader (rw c.in-Some.is at c.in_ok-reader.ensures)
    c.if-writer-reader.false c.in-Some-3.writer (rw c.in-Some-3.is at c.in_ok-writer-2.ensures)

pub returns-in_default-4 : goal.returns-in_default-4
returns-in_default-4 c =
    let element = c.args.search.now.element in
    let w = c.in-Some-2.writer in
    let first = rw c.in-Some-2.is at c.in_ok-writer.ensures in
    none_follows c.requires.counts element w first Lrpd
    (lrpd_follows c.requires.counts element w first c.in-Some.reader (rw c.in-Some.is at c.in_ok-reader.ensures)
    c.if-writer-reader.false (rw c.in_default-3.is at c.in_ok-writer-2.ensures))
    (rw c.in_default-4.is at c.in_ok-reader-2.ensures)

pub returns : goal.returns
returns c =
    let element = c.args.search.now.element in
    let w = c.in-Some-2.writer in
    let first = rw c.in-Some-2.is at c.in_ok-writer.ensures in
    one_follows c.requires.counts element w first Lrpd
    (lrpd_follows c.requires.counts element w first c.in-Some.reader (rw c.in-Some.is at c.in_ok-reader.ensures)
    c.if-writer-reader.false (rw c.in_default-3.is at c.in_ok-writer-2.ensures)) c.in-Some-4.reader
    (rw c.in-Some-4.is at c.in_ok-reader-2.ensures)
