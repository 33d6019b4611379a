use Rattle.loop_core_gather.proofs.PageLaws.{FilledTo}
use Rattle.loop_core_gather.proofs.pages.page_by_elements.Given as goal

abbrev pub invariant-loop-k : goal.invariant-loop-k
invariant-loop-k l = FilledTo l.gathered.words l.page l.own l.k
