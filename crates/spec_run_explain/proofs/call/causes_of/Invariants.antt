use Rattle.std.{proofs.Common.{◌≡◌, take}, specs.List.{AllByRecursion}}
use Rattle.spec_run_explain.specs.Causes.{IsCause, cause_elements}
use Rattle.spec_run_explain.proofs.call.causes_of.Given as goal

abbrev pub invariant-loop-element : goal.invariant-loop-element
invariant-loop-element l = record {
  elements : cause_elements l.causes.items ≡ take l.element-index l.elements;
  causes_are : AllByRecursion (IsCause l.test l.program l.call l.start.words) l.causes.items;
}
