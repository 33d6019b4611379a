-- What a loop that passes leaves.
use Rattle.std.specs.Prelude.{ℕ, Bool, if◌then◌else◌, List, [], ◌∷◌, map, length, slice_index, Option, Some, None}
use Rattle.std.specs.{List.{fold, range_with_len}, Option.{option_or, option_map, unwrap_or}}
use Rattle.array_maps.specs.{declared.access.Op.{Op}, Accesses.{Action, Access, combined, left_by_all}}
use Rattle.loop_core_model.specs.{Actions.{writes, joined, only_operator, operands}, Conflict.{at_element}}

-- the last iteration that passes a test
abbrev pub last_that : (List Action → Bool) → List (List Action) → Option (List Action)
last_that test [] = None
last_that test (first ∷ rest) = option_or (last_that test rest) (if test first then Some first else None)

-- what the last iteration that writes the element left of the start word; nothing where none writes it
abbrev pub last_value : List (List Action) → ℕ → Option ℕ
last_value iterations word = option_map (λ actions. left_by_all actions word) (last_that writes iterations)

-- a reduction-only element gets its start word combined with all operands; another one that is written, what the
-- greatest iteration that writes it left; any other keeps its start word
abbrev pub committed_by : Option Op → List (List Action) → ℕ → ℕ
committed_by (Some op) iterations word = fold (combined op) word (operands (joined iterations))
committed_by None iterations word = unwrap_or (last_value iterations word) word

-- what a pass leaves at an element
abbrev pub committed : List (List Action) → ℕ → ℕ
committed iterations word = committed_by (only_operator (joined iterations)) iterations word

-- all words after the commit
abbrev pub committed_words : List (List Access) → List ℕ → List ℕ
committed_words runs words = map (λ e. committed (at_element e runs) (slice_index words e))
    (range_with_len 0 (length words))
