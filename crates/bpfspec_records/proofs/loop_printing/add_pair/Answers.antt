use Rattle.std.proofs.Common.{append_assoc}
use Rattle.bpfspec_records.specs.{LoopsPrinted.{printed_pair}, Printed.{printed}}
use Rattle.bpfspec_records.proofs.loop_printing.add_pair.Goals as goal

pub returns : goal.returns
unfolding printed printed_pair
returns c =
    simp append_assoc (simp append_assoc at (rw (
      c.in_ok-add_place-3.ensures,
      c.in_ok-add_place-2.ensures,
      c.in_ok-add_place.ensures,
      c.in_ok-add_number-3.ensures,
      c.in_ok-add_number-2.ensures,
      c.in_ok-add_number.ensures,
      c.in_ok-begin.ensures,
      c.from.ensures,
    )
    at c.end.ensures))
