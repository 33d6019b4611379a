-- Words that are set one by one.
use Rattle.std.{proofs.Common.{◌≡◌, ℕ, ◌<◌, List, length, slice_index, sym, ap, ◌∙◌, arith}, specs.Prelude.{replicate}}
use Rattle.std.{specs.List.{sum}, proofs.lemmas.{List.{length-replicate, get_or-replicate}, Grind.{same_number_lists}}}
use Rattle.array_maps.specs.{declared.access.Op.{Op}, MapList.{MapList}}
use Rattle.spec_run_loop.specs.Sums.{identity_of, identity_maps}

-- all of them are set
pub all_cleared : (op : Op) (old new : MapList) (elements : ℕ) → elements ≡ length old.words
    → length old.words ≡ sum old.sizes → new.sizes ≡ old.sizes → length new.words ≡ length old.words
    → ((k : ℕ) → k < elements → slice_index new.words k ≡ identity_of op) → new ≡ identity_maps op old.sizes
all_cleared op old new elements all counted sizes count each =
    ap (λ (s : List ℕ). (let maps : MapList = record { sizes = s; words = new.words } in maps)) sizes
    ∙ ap (λ (ws : List ℕ). (let maps : MapList = record { sizes = old.sizes; words = ws } in maps))
    (same_number_lists new.words (replicate (sum old.sizes) (identity_of op))
    (count ∙ counted ∙ sym (length-replicate (sum old.sizes) (identity_of op)))
    (λ k below. each k (omega (arith, below, all, count))
    ∙ sym (get_or-replicate (sum old.sizes) k (identity_of op) 0 (omega (arith, below, count, counted)))))
