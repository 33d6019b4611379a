-- A word is a multiple of its trailing zeros.
use Rattle.value_range.proofs.SpanLaws.{exact-span}
use Rattle.value_range.proofs.range.exact.Goals as goal

pub invariant_of-result : goal.invariant_of-result
invariant_of-result c = exact-span c.args.number c.ranges.number.fits
