-- What the marks of a set of iterations tell, and how they come about.
use Rattle.std.specs.Prelude.{◌≡◌, ℕ, ◌-◌, ◌≤◌, not, ◌&&◌, ◌==◌, nat_lt, min, List, [], ◌∷◌, ◌++◌, Option, is_some}
use Rattle.array_maps.specs.Accesses.{Action}
use Rattle.loop_core_model.specs.{declared.loop_test.Test.{Test}, Actions.{joined, only_operator}, Conflict.{conflicts}}
use Rattle.loop_core_model.specs.{LeastBreak.{lesser}, Flags.{flags_of}}
use Rattle.loop_core_model.specs.Marks.{Visit, numbered, Marks, marks_of, marked_reduction, stands_before, first_number}
use Rattle.loop_core_model.specs.Marks.{marked_conflict, no_marks, marks_of_one, merged}

-- the marks tell exactly which elements are reduction-only, and which conflict by either test
pub record MarksTell : Type 0 where
  pub reduction : (index : ℕ) (iterations : List (List Action)) →
      is_some (only_operator (joined iterations)) ≡ marked_reduction (marks_of (numbered index iterations))
  pub conflict : (test : Test) (index : ℕ) (iterations : List (List Action)) →
      conflicts test iterations ≡ marked_conflict test (marks_of (numbered index iterations))

-- a first writer as a number says the same, and the lesser of two is their lesser number
pub record FirstIsNumber : Type 0 where
  pub before : (first : Option ℕ) (last : ℕ) → last ≤ 4294967296 →
      stands_before first last ≡ (not (last == 0) && nat_lt (first_number first) (last - 1))
  pub lesser_is : (a b : Option ℕ) → first_number a ≤ 4294967295 → first_number b ≤ 4294967295 →
      first_number (lesser a b) ≡ min (first_number a) (first_number b)

-- those of one iteration follow from its index and flags, those of two disjoint sets are merged, and the order of
-- merging doesn't matter
pub record MarksMerge : Type 0 where
  pub none : marks_of [] ≡ no_marks
  pub one : (visit : Visit) → marks_of (visit ∷ []) ≡ marks_of_one visit.index (flags_of visit.actions)
  pub both : (xs ys : List Visit) → marks_of (xs ++ ys) ≡ merged (marks_of xs) (marks_of ys)
  pub either_first : (a b : Marks) → merged a b ≡ merged b a
  pub any_grouping : (a b c : Marks) → merged (merged a b) c ≡ merged a (merged b c)
