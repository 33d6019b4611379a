use Rattle.loop_core_gather.proofs.SharingLaws.{HaveTouchedBelow}
use Rattle.loop_core_gather.proofs.sharing.touched_numbers.Given as goal

abbrev pub invariant-loop-page : goal.invariant-loop-page
invariant-loop-page l = HaveTouchedBelow l.touched l.page l.pages.items
