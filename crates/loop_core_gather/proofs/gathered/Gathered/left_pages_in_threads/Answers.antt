use Rattle.std.proofs.Common.{map}
use Rattle.rayon.proofs.ListFacts.{IfOk-then}
use Rattle.loop_core_block.specs.Shown.{shown}
use Rattle.loop_core_gather.proofs.{HeldLaws.{changes_within}, SharingLaws.{are_left}}
use Rattle.loop_core_gather.proofs.gathered.Gathered.left_pages_in_threads.Goals as goal

pub returns : goal.returns
returns g c =
    let held = c.self.inside in
    let numbers = c.in_ok-numbers.numbers.items in
    IfOk-then c.left_in_threads.result _ _ c.left_in_threads.ensures (λ pages all. rw (← c.self.view_is) (are_left _ _
    numbers pages.items (changes_within held.planes (map shown held.blocks.items) held.counting.items held.start.now
    held.touched.items numbers c.self.invariant (rw c.deref.ensures.value at c.in_ok-numbers.ensures))
    (rw (c.deref-2.ensures.value, ← c.self.view_is) at all)))
