use Rattle.loop_core_model.proofs.{PlaneBits.{plane_judges}, PlaneLaws.{plane_has_elements}}
use Rattle.loop_core_model.proofs.law_of_planes.Goals as goal

pub returns-clause-elements : goal.returns-clause-elements
returns-clause-elements c = plane_has_elements

pub returns-clause-verdict : goal.returns-clause-verdict
returns-clause-verdict c = plane_judges
