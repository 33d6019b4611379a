use Rattle.std.proofs.Common.{◌≡◌, ℕ, ltb, length, replicate, None}
use Rattle.private_copy.specs.Touched.{has_page}
use Rattle.private_copy.proofs.pages.Pages.try_new.Given as goal

abbrev pub invariant-loop-number : goal.invariant-loop-number
invariant-loop-number l =
    (length l.order.keys ≡ l.number) × ((p : ℕ) → has_page l.order.keys p ≡ ltb p l.number)
    × (l.table.items ≡ replicate l.number None)
