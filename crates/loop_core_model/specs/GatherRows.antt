-- Worked lists of blocks of the split 0 4 8 12 16. Each is worked out by hand.
use Rattle.std.specs.Prelude.{◌≡◌, ℕ, ◌-◌, List, [], ◌∷◌, ◌++◌, replicate, Option, Some, None}
use Rattle.bpf_step_model.specs.Iteration.{Iterated}
use Rattle.loop_core_model.specs.declared.faults.GatherFault.{GatherFault, TheVariants.{Missing, Twice, Foreign}}
use Rattle.loop_core_model.specs.Gather.{Block, gather_fault}

-- an iteration that returned this
abbrev pub returning : ℕ → Iterated
returning ret = record { ret = ret; steps = 2; accesses = []; words = [] }

-- the iterations of an interval that broke at an index, or didn't
abbrev pub iterations : (first past : ℕ) → Option ℕ → List Iterated
iterations first past None = replicate (past - first) (returning 0)
iterations first past (Some index) = replicate (index - first) (returning 0) ++ returning 1 ∷ []

-- a block with a number and an interval that broke at an index, or didn't
abbrev pub worked_block : (number first past : ℕ) → Option ℕ → Block
worked_block number first past broke_at = record {
  number = number;
  first = first;
  past = past;
  ran = iterations first past broke_at;
}

-- a list of blocks has this fault, or none
abbrev pub HasGatherFault : List Block → Option GatherFault → Type 0
HasGatherFault runs fault = gather_fault (0 ∷ 4 ∷ 8 ∷ 12 ∷ 16 ∷ []) runs ≡ fault

-- blocks past the least break may be there or not, in any order; one that starts at the break has to be there
pub record GatherRows : Type 0 where
  pub all : HasGatherFault (worked_block 2 8 12 None ∷ worked_block 0 0 4 None ∷ worked_block 3 12 16 None
      ∷ worked_block 1 4 8 None ∷ []) None
  pub up_to_the_break : HasGatherFault (worked_block 0 0 4 (Some 3) ∷ []) None
  pub past_the_break : HasGatherFault (worked_block 3 12 16 (Some 12) ∷ worked_block 0 0 4 (Some 3) ∷ []) None
  pub starts_at_the_break : HasGatherFault (worked_block 0 0 4 None ∷ worked_block 1 4 8 (Some 4) ∷ []) None
  pub before_the_break : HasGatherFault (worked_block 1 4 8 (Some 4) ∷ []) (Some Missing)
  pub at_the_break : HasGatherFault (worked_block 0 0 4 None ∷ worked_block 1 4 8 None ∷ worked_block 3 12 16 (Some 12)
      ∷ []) (Some Missing)
  pub without_a_break : HasGatherFault (worked_block 0 0 4 None ∷ worked_block 1 4 8 None ∷ worked_block 2 8 12 None
      ∷ []) (Some Missing)
  pub none : HasGatherFault [] (Some Missing)
  pub twice : HasGatherFault (worked_block 0 0 4 (Some 3) ∷ worked_block 1 4 8 None ∷ worked_block 0 0 4 (Some 3) ∷ [])
      (Some Twice)
  pub other_interval : HasGatherFault (worked_block 0 0 5 (Some 3) ∷ []) (Some Foreign)
  pub other_number : HasGatherFault (worked_block 0 0 4 (Some 3) ∷ worked_block 4 16 20 None ∷ []) (Some Foreign)
  pub missing_before_twice : HasGatherFault (worked_block 1 4 8 None ∷ worked_block 1 4 8 None ∷ []) (Some Missing)
  pub twice_before_foreign : HasGatherFault (worked_block 0 0 5 (Some 3) ∷ worked_block 0 0 4 None ∷ []) (Some Twice)
