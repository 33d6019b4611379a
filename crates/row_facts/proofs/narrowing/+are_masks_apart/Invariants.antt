use Rattle.row_facts.proofs.narrowing.+are_masks_apart.Given as goal

abbrev pub decreases-are_masks_apart : goal.decreases-are_masks_apart
decreases-are_masks_apart l = l.steps
