use Rattle.loop_core_gather.proofs.StoringLaws.{StoredSoFar}
use Rattle.loop_core_gather.proofs.storing.store_pages.Given as goal

abbrev pub invariant-loop-page : goal.invariant-loop-page
invariant-loop-page l = StoredSoFar l.fn.maps l.maps l.pages l.page-index
