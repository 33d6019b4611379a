-- What is kept of a block at one element, so that what a pass leaves there follows from all blocks in order.
use Rattle.std.specs.{Prelude.{◌≡◌, ℕ, Bool, true, false, List, [], ◌∷◌, map, Option, Some, None, is_some}, List.{fold}}
use Rattle.std.specs.Option.{option_or, unwrap_or}
use Rattle.array_maps.specs.{declared.access.Op.{Op}, Accesses.{Action, combined}}
use Rattle.loop_core_model.specs.{Actions.{joined, only_operator, operands}, Committed.{last_value, committed}}

-- operands combined by an operator, beginning with the first
abbrev pub combined_from_first : Op → List ℕ → Option (Op × ℕ)
combined_from_first op [] = None
combined_from_first op (first ∷ rest) = Some (op, fold (combined op) first rest)

-- the same where there is one operator
abbrev pub partial_by : Option Op → List ℕ → Option (Op × ℕ)
partial_by None operands = None
partial_by (Some op) operands = combined_from_first op operands

-- where iterations accessed the element, and by reduces of one operator alone, that operator and their operands
-- combined, beginning with the first
abbrev pub partial : List (List Action) → Option (Op × ℕ)
partial iterations = partial_by (only_operator (joined iterations)) (operands (joined iterations))

-- what is kept of a block at an element
pub record Kept : Type 0 where
  pub last_value : Option ℕ
  pub partial : Option (Op × ℕ)

abbrev pub kept : List (List Action) → ℕ → Kept
kept iterations word = record { last_value = last_value iterations word; partial = partial iterations }

-- a word with a partial applied to it, where there is one
abbrev pub applied : ℕ → Option (Op × ℕ) → ℕ
applied word None = word
applied word (Some reduced) = combined reduced.0 word reduced.1

-- the last of the values that are there
abbrev pub last_of : List (Option ℕ) → Option ℕ
last_of [] = None
last_of (first ∷ rest) = option_or (last_of rest) first

-- what a pass leaves at an element of what is kept of the blocks in order: where it is reduction-only, the start word
-- with each block's partial applied; else the last value of the last block that has one, or the start word
abbrev pub committed_of_kept : (reduction : Bool) → List Kept → ℕ → ℕ
committed_of_kept true blocks word = fold applied word (map (λ (k : Kept). k.partial) blocks)
committed_of_kept false blocks word = unwrap_or (last_of (map (λ (k : Kept). k.last_value) blocks)) word

-- each operator is associative; so operands that are applied to a word in turn are their combination applied at once
pub record OperatorsAssociate : Type 0 where
  pub each : (op : Op) (a b c : ℕ) → combined op (combined op a b) c ≡ combined op a (combined op b c)
  pub at_once : (op : Op) (word : ℕ) (operands : List ℕ) → fold (combined op) word operands ≡ applied word
      (combined_from_first op operands)

-- what a pass leaves of all iterations is what it leaves of what is kept of the blocks that they stand in
abbrev pub CommitsOfKept : Type 0
CommitsOfKept = (blocks : List (List (List Action))) (word : ℕ) →
    committed (joined blocks) word
    ≡ committed_of_kept (is_some (only_operator (joined (joined blocks)))) (map (λ iterations. kept iterations word)
    blocks) word
