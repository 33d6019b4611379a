use Rattle.std.proofs.Common.{◌≡◌, ℕ, ◌-◌, ◌<◌, length, get_or, None}
use Rattle.private_copy.specs.Cells.{IsBlank}
use Rattle.private_copy.proofs.pages.Pages.make_spare.Given as goal

abbrev pub invariant-loop-alloc : goal.invariant-loop-alloc
invariant-loop-alloc l =
    (l.self-inside.order ≡ l.initial.self-inside.order) × (l.self-inside.placed ≡ l.initial.self-inside.placed)
    × (l.self-inside.table ≡ l.initial.self-inside.table)
    × ((k : ℕ) → k < length l.self-inside.spare.items → IsBlank (get_or l.self-inside.spare.items k None))

abbrev pub decreases-loop-alloc : goal.decreases-loop-alloc
decreases-loop-alloc l = l.initial.wanted - length l.self-inside.spare.items
