use Rattle.loop_core_gather.proofs.PageLaws.{FilledTo}
use Rattle.loop_core_gather.proofs.pages.page_of.Given as goal

abbrev pub invariant-loop-k : goal.invariant-loop-k
invariant-loop-k l = FilledTo l.words l.page l.own l.k

abbrev pub invariant-loop-k-else-first-words : goal.invariant-loop-k-else-first-words
invariant-loop-k-else-first-words l = FilledTo l.words l.page l.own l.k
