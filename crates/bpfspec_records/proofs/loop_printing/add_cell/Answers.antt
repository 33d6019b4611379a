use Rattle.std.proofs.Common.{◌≡◌, append_assoc, option_map, refl}
use Rattle.loop_core_trace.specs.declared.slots.FirstReduce.{FirstReduce}
use Rattle.bpfspec_records.specs.{LoopsPrinted.{printed_cell}, Printed.{printed}}
use Rattle.bpfspec_records.proofs.loop_printing.add_cell.Goals.{in-None, in-Some}
use Rattle.bpfspec_records.proofs.loop_printing.add_cell.Goals as goal

pub returns : goal.returns
unfolding printed printed_cell
returns c =
    let reduce : c.match-fact.reduce ≡ option_map (λ (first : FirstReduce). first.slot) c.args.fact.now.slots.reduce
    = elim c.match-fact.branch [
      | in-None w ↦ rw (w.reduce-is, w.in-None.is) refl
      | in-Some w ↦ rw (w.reduce-is, w.in-Some.is, w.from-in-Some.ensures) refl
    ] in
    simp append_assoc (simp append_assoc at (rw (
      c.in_ok-add_optional-3.ensures,
      c.in_ok-add_optional-2.ensures,
      c.in_ok-add_optional.ensures,
      c.in_ok-add_number-4.ensures,
      c.in_ok-add_number-3.ensures,
      c.in_ok-add_number-2.ensures,
      c.in_ok-add_number.ensures,
      c.in_ok-begin.ensures,
      reduce,
      c.widened-2.ensures,
      c.widened.ensures,
      c.from-2.ensures,
      c.from.ensures,
    )
    at c.end.ensures))
