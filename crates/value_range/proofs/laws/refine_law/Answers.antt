-- Each row leaves spans, and keeps each pair that meets the condition.
use Rattle.value_range.proofs.{RefineContains.{refined-has}, RefineSpans.{refined-spans}}
use Rattle.value_range.proofs.laws.refine_law.Goals as goal

pub returns : goal.returns
returns c = record { are_spans = refined-spans; keeps = refined-has }
