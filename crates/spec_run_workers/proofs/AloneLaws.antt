-- A loop that is run as one block.
use Rattle.std.proofs.Common.{◌≡◌, ℕ, ◌≤◌, List, [], ◌∷◌, ◌++◌, map, arith}
use Rattle.std.{specs.List.{All}, proofs.lemmas.{Bool.Decides.{nat_tests}, List.Elements.{All-nil, All-cons}}}
use Rattle.loop_core_model.specs.Intervals.{blocks_of}
use Rattle.loop_board.{specs.Sums.{times}, proofs.Sums.{times_first}}
use Rattle.loop_core_block.specs.{declared.block.Block.{Block}, Loops.{LoopOf}, LoopBlocks.{IsBlockOf}, Shown.{shown}}
use Rattle.spec_run_workers.{specs.Workers.{AreFaultless}, proofs.{StillWorks.{in_split}, CompleteLaws.{whole}}}

-- what holds of it holds of all blocks
pub all_of_one : (P : Block → Type 0) (blocks before : List Block) (b : Block) → before ≡ [] → blocks ≡ before ++ b ∷ []
    → P b → All P blocks
all_of_one P blocks before b none is holds = rw (is, none) (All-cons P b [] holds (All-nil P))

once : (k x : ℕ) → times k (x ∷ []) ≤ 1
once k x = grind (arith, nat_tests)

-- and together they have no fault
pub alone_faultless : (l : LoopOf) (blocks before : List Block) (b : Block) → before ≡ [] → blocks ≡ before ++ b ∷ []
    → blocks_of l.bounds ≡ 1 → IsBlockOf l 0 (shown b) → AreFaultless l (map shown blocks)
alone_faultless l blocks before b none is one block = rw (is, none)
    (whole l.test l.program l.call l.start.words l.bounds (shown b ∷ []) (in_split block, tt) (λ k. once k b.number)
    (λ k below _. let zero_is : k ≡ b.number = (let number = block.number_is in omega arith) in
    rw zero_is (times_first b.number [])))
