use Rattle.std.proofs.Common.{refl}
use Rattle.loop_inspector.proofs.survey.survey_of.Goals as goal

pub returns : goal.returns
returns c = record {
  ordered = c.if-not-is_ordered.ensures refl;
  facts = c.in_ok-facts.facts.items;
  are_facts = c.in_ok-facts.ensures;
  are_sites = rw c.deref.ensures.value at c.in_ok-sites.ensures;
  all = rw c.as_slice.ensures.value at c.in_ok-spans.ensures;
}
