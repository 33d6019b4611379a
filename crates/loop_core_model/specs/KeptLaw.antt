-- What is kept of the blocks of a loop at an element, its marks and its kept values, says whether the element conflicts
-- and what a pass leaves there.
use Rattle.std.specs.Prelude.{◌≡◌, ℕ, ◌+◌, List, [], ◌∷◌, map, length}
use Rattle.array_maps.specs.Accesses.{Action}
use Rattle.loop_core_model.specs.{declared.loop_test.Test.{Test}, Actions.{joined}, Conflict.{conflicts}}
use Rattle.loop_core_model.specs.{Committed.{committed}, Kept.{kept, committed_of_kept}}
use Rattle.loop_core_model.specs.Marks.{numbered, Marks, marks_of, marked_reduction, marked_conflict, no_marks, merged}

-- the marks of blocks in order, of which the first begins at an index: those of each, merged
abbrev pub marks_of_blocks : ℕ → List (List (List Action)) → Marks
marks_of_blocks index [] = no_marks
marks_of_blocks index (block ∷ blocks) =
    merged (marks_of (numbered index block)) (marks_of_blocks (index + length block) blocks)

-- the merged marks are those of all iterations; so they tell whether the element conflicts, and whether it is
-- reduction-only, by which a pass leaves what follows from the kept values
pub record KeptBlocksTell : Type 0 where
  pub marks : (index : ℕ) (blocks : List (List (List Action))) → marks_of (numbered index (joined blocks))
      ≡ marks_of_blocks index blocks
  pub conflict : (test : Test) (index : ℕ) (blocks : List (List (List Action))) →
      conflicts test (joined blocks) ≡ marked_conflict test (marks_of_blocks index blocks)
  pub commit : (index : ℕ) (blocks : List (List (List Action))) (word : ℕ) →
      committed (joined blocks) word
      ≡ committed_of_kept (marked_reduction (marks_of_blocks index blocks)) (map (λ iterations. kept iterations word)
      blocks) word
