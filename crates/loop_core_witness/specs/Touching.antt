-- Which elements iterations access.
use Rattle.std.specs.Prelude.{◌≡◌, ℕ, Bool, true, false, ◌||◌, List, [], ◌∷◌, length, None}
use Rattle.std.specs.List.{list_any, filter, range_with_len}
use Rattle.array_maps.specs.Accesses.{Action, Access, actions_at}
use Rattle.bpf_insn_types.specs.Program.{Program}
use Rattle.bpf_step_model.specs.{State.{LoopCall}, Run.{Ended}, Iteration.{Iterated}}
use Rattle.loop_core_model.specs.{Block.{block_run}, LeastBreak.{accesses_of_each}}
use Rattle.shadow_marks.specs.declared.planes.Planes.{Planes}
use Rattle.loop_core_witness.specs.{declared.choosing.Span.{Span}, Surveys.{does_more}}

-- there are actions
abbrev pub is_some_action : List Action → Bool
is_some_action [] = false
is_some_action (action ∷ actions) = true

-- an iteration of these accesses an element
abbrev pub is_accessed : List (List Access) → (element : ℕ) → Bool
is_accessed runs element = list_any (λ (run : List Access). is_some_action (actions_at element run)) runs

-- the elements below `count` that one of these iterations or of those accesses, rising
abbrev pub accessed_by : (lower upper : List (List Access)) → (count : ℕ) → List ℕ
accessed_by lower upper count = filter (λ (element : ℕ). is_accessed lower element || is_accessed upper element)
    (range_with_len 0 count)

-- on these words the iterations of a span up to the first that breaks, or all, make these accesses
pub record SpanRuns (program : Program) (call : LoopCall) (words : List ℕ) (span : Span) (runs : List (List Access))
    : Type 0 where
  pub ran : List Iterated
  pub ended : block_run program 4096 call words span.from span.past ≡ Ended ran
  pub accesses : runs ≡ accesses_of_each ran

-- these are the elements that the iterations of two spans access
pub record AreTouched (program : Program) (call : LoopCall) (words : List ℕ) (lower upper : Span)
    (elements : List ℕ) : Type 0 where
  pub lower_runs : List (List Access)
  pub lower_ran : SpanRuns program call words lower lower_runs
  pub upper_runs : List (List Access)
  pub upper_ran : SpanRuns program call words upper upper_runs
  pub all : elements ≡ accessed_by lower_runs upper_runs (length words)

-- the elements that the planes of one of two blocks mark as accessed, rising
abbrev pub marked_by : (lower upper : Planes) → List ℕ
marked_by lower upper = filter (λ (element : ℕ). does_more lower None element || does_more upper None element)
    (range_with_len 0 lower.elements)
