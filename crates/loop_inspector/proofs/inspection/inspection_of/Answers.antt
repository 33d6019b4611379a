use Rattle.loop_inspector.proofs.inspection.inspection_of.Goals as goal

pub returns : goal.returns
returns c = record {
  survey = c.in-Some.survey;
  known = rw (c.in-Some.is, c.as_slice-ops.ensures.value) at c.in_ok-survey.ensures;
  plane = rw c.as_slice.ensures.value at c.in_ok-plane.ensures.plane;
  slice = rw (c.in-Some-2.is, c.as_slice-2.ensures.value, c.as_slice-3.ensures.value) at c.in_ok-slice_of.ensures;
}
