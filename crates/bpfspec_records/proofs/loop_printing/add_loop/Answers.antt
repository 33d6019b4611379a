use Rattle.std.proofs.Common.{◌≡◌, append_assoc, of_z, refl, rules, to_z, w64}
use Rattle.bpfspec_records.specs.{LoopsPrinted.{conflict_count, printed_loop}, Printed.{printed}, Words.{verdict_word}}
use Rattle.bpfspec_records.proofs.loop_printing.add_loop.Goals.{in-Parallel, in-Conflict, in-Refused, in-InOrder}
use Rattle.bpfspec_records.proofs.loop_printing.add_loop.Goals as goal

pub returns : goal.returns
unfolding printed printed_loop
returns c =
    let verdict : c.match-fact.conflicts.0.now ≡ verdict_word c.args.fact.now.line.verdict =
    elim c.match-fact.branch [
      | in-Parallel w ↦ rw (w.conflicts-is, w.in-Parallel.is) refl
      | in-Conflict w ↦ rw (w.conflicts-is, w.in-Conflict.is) refl
      | in-Refused w ↦ rw (w.conflicts-is, w.in-Refused.is) refl
      | in-InOrder w ↦ rw (w.conflicts-is, w.in-InOrder.is) refl
    ] in
    let conflicts : c.match-fact.conflicts.1 ≡ conflict_count c.args.fact.now.line.verdict =
    elim c.match-fact.branch [
      | in-Parallel w ↦ rw (w.conflicts-is, w.in-Parallel.is) refl
      | in-Conflict w ↦ rw (w.conflicts-is, w.in-Conflict.is, w.from-in-Conflict.ensures) refl
      | in-Refused w ↦ rw (w.conflicts-is, w.in-Refused.is) refl
      | in-InOrder w ↦ rw (w.conflicts-is, w.in-InOrder.is) refl
    ] in
    let answer : to_z w64 (of_z w64 c.args.fact.now.line.answer) ≡ c.args.fact.now.line.answer = search rules in
    simp append_assoc (simp append_assoc at (rw (
      c.in_ok-add_place.ensures,
      c.in_ok-add_way.ensures,
      c.in_ok-add_optional.ensures,
      c.in_ok-add_word.ensures,
      c.in_ok-add_signed.ensures,
      c.in_ok-add_wide.ensures,
      c.in_ok-add_number-3.ensures,
      c.in_ok-add_number-2.ensures,
      c.in_ok-add_number.ensures,
      c.in_ok-begin.ensures,
      verdict,
      conflicts,
      answer,
      c.from-2.ensures,
      c.from.ensures,
    )
    at c.end.ensures))
