-- The elements of a copy.
use Rattle.std.{proofs.Common.{ℕ, ◌<◌, length, arith}, specs.Prelude.{slice_index}}
use Rattle.private_copy.specs.{declared.private.Private.{Private}, Cells.{cell_at}, Shown.{copy_of, seen_word}}
use Rattle.private_copy.proofs.AccessLaws.{shown_length}

-- an element of the start words is one of those that are seen
pub within_words : (p : Private) (e : ℕ) → e < length (copy_of p).start → e < length (copy_of p).words
within_words p e inside = let long =
    shown_length (λ x. seen_word (cell_at p.pages x) p.begun (slice_index p.start.now x)) (length p.start.now) in
    omega (arith, inside, long)
