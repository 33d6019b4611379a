use Rattle.loop_core_gather.proofs.decision.Decision.apply_to_copy.Goals as goal

pub returns : goal.returns
returns c = rw c.in_ok-maps.ensures at c.apply-verdict.ensures
