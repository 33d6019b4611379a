use Rattle.std.{proofs.Common.{◌≡◌, ℕ, None}, specs.{Prelude.{◌||◌}, List.{filter, range_with_len}}}
use Rattle.loop_core_witness.specs.Surveys.{does_more}
use Rattle.loop_core_witness.proofs.touching.marked_elements.Given as goal

abbrev pub invariant-loop-element : goal.invariant-loop-element
invariant-loop-element l = l.elements.items
    ≡ filter (λ (e : ℕ). does_more l.lower None e || does_more l.upper None e) (range_with_len 0 l.element)
