use Rattle.loop_inspector.proofs.inspection.inspect.Goals as goal

pub verdict-requires-clause-is : goal.verdict-requires-clause-is
verdict-requires-clause-is c = record {
  rows = c.in-Some.rows.now;
  are = rw c.callback.ensures at c.in-Some.ensures;
  is = rw (c.in-Some-2.is, c.n.ensures, c.words.ensures.words) at c.in_ok-inspection.ensures;
}
