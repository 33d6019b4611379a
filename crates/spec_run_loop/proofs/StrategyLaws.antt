-- Which way loops go.
use Rattle.std.proofs.Common.{◌≡◌, ℕ, List, length, Result, Ok, Err, IfOk, subst}
use Rattle.loop_core_split.specs.declared.strategy.Strategy.{Strategy}
use Rattle.spec_run_loop.specs.{declared.strategy.StrategyPlan.{StrategyPlan}, Jobs.{JobOf}}
use Rattle.spec_run_loop.specs.{StrategyPlans.{IsStrategyOf}, Strategies.{IsCourseBy, IsStrategyUsed}}

-- which way a loop goes from these words, by its way over as many elements
pub goes_so : (job : JobOf) (elements : ℕ) (words : List ℕ) (way : StrategyPlan) (strategy : Strategy) → elements ≡ length words
    → IsStrategyOf job elements way → IsCourseBy job words way strategy → IsStrategyUsed job words strategy
goes_so job elements words way strategy count goes is = record {
  way = way;
  goes = subst (λ (n : ℕ). IsStrategyOf job n way) count goes;
  is = is;
}

-- what is told of a loop that went by its way
pub course_so : {A E : Type 0} → (strategy : A → Strategy) (job : JobOf) (elements : ℕ) (words : List ℕ) (way : StrategyPlan)
    (told : Result A E) → elements ≡ length words → IsStrategyOf job elements way
    → IfOk told (λ a. IsCourseBy job words way (strategy a)) → IfOk told (λ a. IsStrategyUsed job words (strategy a))
course_so strategy job elements words way (Ok a) count goes is =
    goes_so job elements words way (strategy a) count goes is
course_so strategy job elements words way (Err e) count goes is = tt
