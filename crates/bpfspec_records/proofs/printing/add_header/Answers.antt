use Rattle.std.proofs.Common.{◌≡◌, append_assoc, codes, if◌then◌else◌, refl}
use Rattle.bpfspec_records.specs.{Printed.{printed}, Words.{test_word}}
use Rattle.bpfspec_records.proofs.printing.add_header.Goals.{then-hex, else-hex, in-Lrpd, in-Flow}
use Rattle.bpfspec_records.proofs.printing.add_header.Goals as goal

pub returns : goal.returns
unfolding printed
returns c =
    let form : c.if-hex.add_word.now ≡ (if c.args.hex then codes "hex" else codes "text") = elim c.if-hex.branch [
      | then-hex w ↦ rw (w.add_word-is, w.if-hex.true) refl
      | else-hex w ↦ rw (w.add_word-is, w.if-hex.false) refl
    ] in
    let test : c.match-test.test.now ≡ test_word c.args.test = elim c.match-test.branch [
      | in-Lrpd w ↦ rw (w.test-is, w.in-Lrpd.is) refl
      | in-Flow w ↦ rw (w.test-is, w.in-Flow.is) refl
    ] in
    simp append_assoc (simp append_assoc at (rw (
      c.in_ok-add_flag-3.ensures,
      c.in_ok-add_flag-2.ensures,
      c.in_ok-add_flag.ensures,
      c.in_ok-add_word-2.ensures,
      c.in_ok-add_wide.ensures,
      c.in_ok-add_word.ensures,
      c.in_ok-add_number.ensures,
      c.in_ok-begin.ensures,
      form,
      test,
    )
    at c.end.ensures))
