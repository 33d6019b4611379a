use Rattle.std.proofs.Common.{◌≡◌, ◌+◌, ◌-◌, ◌<◌, min, arith}
use Rattle.loop_inspector.proofs.SpanLaws.{span-set}
use Rattle.loop_inspector.proofs.open.set_span.Goals as goal

pub returns-then-span-end : goal.returns-then-span-end
returns-then-span-end c =
    let span = c.args.span in
    let end = c.min-end.result in
    let last : end ≡ min c.args.elements (min (span.last + 1) 18446744073709551615) =
    omega (arith, c.min-end.ensures, c.from.ensures, c.saturating_add.ensures) in
    let some = c.if-span-end.true in
    let few : c.args.elements < 4294967296 = omega arith in
    span-set span c.args.elements (end - span.first) c.args.plane.now c.set_run.new.words (omega (arith, last, some))
    (omega (arith, last, some)) (λ e below upto. omega (arith, last, some, few, below, upto)) c.set_run.ensures
