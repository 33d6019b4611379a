use Rattle.loop_core_block.proofs.block.Block.into_workspace.Goals as goal

pub clear-requires : goal.clear-requires
clear-requires c = c.requires.stand.1.whole

pub invariant_of-result-clause-unmarked : goal.invariant_of-result-clause-unmarked
invariant_of-result-clause-unmarked c = c.clear.ensures.none c.requires.stand.0 c.requires.stand.1
