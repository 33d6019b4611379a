use Rattle.std.proofs.Common.{◌≡◌, append_assoc, refl, to_z-of_z}
use Rattle.bpfspec_records.specs.{Printed.{printed}, Words.{frame_word}}
use Rattle.bpfspec_records.proofs.printing.add_unwritten.Goals.{in-Own, in-Main}
use Rattle.bpfspec_records.proofs.printing.add_unwritten.Goals as goal

pub returns : goal.returns
unfolding printed
returns c =
    let whose : c.match-frame.whose.now ≡ frame_word c.args.frame = elim c.match-frame.branch [
      | in-Own w ↦ rw (w.whose-is, w.in-Own.is) refl
      | in-Main w ↦ rw (w.whose-is, w.in-Main.is) refl
    ] in
    simp append_assoc (simp append_assoc at (rw (
      c.in_ok-add_signed.ensures,
      c.in_ok-add_word.ensures,
      c.in_ok-add_number.ensures,
      c.in_ok-begin.ensures,
      whose,
      c.from.ensures,
      to_z-of_z c.ranges.offset,
    )
    at c.end.ensures))
