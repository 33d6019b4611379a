-- Worked splits. Each is worked out by hand.
use Rattle.std.specs.Prelude.{◌≡◌, [], ◌∷◌, replicate, Some, None}
use Rattle.loop_core_model.specs.declared.faults.SplitFault.TheVariants.{Falling, Number, Ends}
use Rattle.loop_core_model.specs.Split.{even_bounds, split_fault}

-- even splits: bounds are rounded down, more blocks than iterations leave empty ones, and so does a loop without any
pub record EvenRows : Type 0 where
  pub empty_first : even_bounds 3 4 ≡ 0 ∷ 0 ∷ 1 ∷ 2 ∷ 3 ∷ []
  pub rounded_down : even_bounds 8 3 ≡ 0 ∷ 2 ∷ 5 ∷ 8 ∷ []
  pub quarters : even_bounds 16 4 ≡ 0 ∷ 4 ∷ 8 ∷ 12 ∷ 16 ∷ []
  pub one : even_bounds 8388608 1 ≡ 0 ∷ 8388608 ∷ []
  pub none : even_bounds 0 2 ≡ 0 ∷ 0 ∷ 0 ∷ []

-- the faults of bounds for 16 iterations, and where several stand the least
pub record FaultRows : Type 0 where
  pub whole : split_fault (0 ∷ 16 ∷ []) 16 ≡ None
  pub empty_blocks : split_fault (0 ∷ 0 ∷ 16 ∷ 16 ∷ []) 16 ≡ None
  pub most : split_fault (replicate 65 0) 0 ≡ None
  pub no_iterations : split_fault (0 ∷ 0 ∷ []) 0 ≡ None
  pub falls : split_fault (0 ∷ 9 ∷ 8 ∷ 16 ∷ []) 16 ≡ Some Falling
  pub one_bound : split_fault (16 ∷ []) 16 ≡ Some Number
  pub no_bound : split_fault [] 16 ≡ Some Number
  pub too_many : split_fault (replicate 66 0) 0 ≡ Some Number
  pub last_below : split_fault (0 ∷ 8 ∷ []) 16 ≡ Some Ends
  pub last_above : split_fault (0 ∷ 17 ∷ []) 16 ≡ Some Ends
  pub first_above : split_fault (1 ∷ 16 ∷ []) 16 ≡ Some Ends
  pub falls_at_its_end : split_fault (0 ∷ 9 ∷ 8 ∷ []) 16 ≡ Some Falling

-- all of them
pub record SplitRows : Type 0 where
  pub even : EvenRows
  pub faults : FaultRows
