-- All bits of a word, shifted to the right by its leading zeros.
use Rattle.value_range.proofs.{RowBounds.{filled-least}, Computed.{filled-ones, filled-most, filled-zero}}
use Rattle.value_range.proofs.bits.fill.Goals as goal

pub returns-then-word-eq0-clause-equal : goal.returns-then-word-eq0-clause-equal
returns-then-word-eq0-clause-equal c = filled-zero c.args.word c.if-word-eq0.true

pub returns-else-word-eq0-clause-equal : goal.returns-else-word-eq0-clause-equal
returns-else-word-eq0-clause-equal c = filled-ones c.args.word

pub returns-else-word-eq0-clause-not_below : goal.returns-else-word-eq0-clause-not_below
returns-else-word-eq0-clause-not_below c = rw (filled-ones c.args.word) (filled-most c.args.word c.ranges.word.fits)

pub returns-else-word-eq0-clause-least : goal.returns-else-word-eq0-clause-least
returns-else-word-eq0-clause-least c =
    rw (filled-ones c.args.word) (λ k h. filled-least c.args.word k c.ranges.word.fits h)
