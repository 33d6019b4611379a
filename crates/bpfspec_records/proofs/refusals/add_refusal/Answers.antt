use Rattle.std.proofs.Common.{append_assoc}
use Rattle.bpfspec_records.specs.{Printed.{printed}, Refusals.{printed_refusal}}
use Rattle.bpfspec_records.proofs.refusals.add_refusal.Goals as goal

pub returns : goal.returns
unfolding printed printed_refusal
returns c =
    simp append_assoc (simp append_assoc at (rw (
      c.in_ok-add_optional-3.ensures,
      c.in_ok-add_optional-2.ensures,
      c.in_ok-add_optional.ensures,
      c.in_ok-add_word-2.ensures,
      c.in_ok-add_code.ensures,
      c.in_ok-add_word.ensures,
      c.in_ok-begin.ensures,
      c.place_of-line.ensures.event,
      c.place_of-line.ensures.slot,
      c.place_of-line.ensures.line,
      c.name_of.ensures,
      c.section_name.ensures,
      c.section_of.ensures,
    )
    at c.end.ensures))
