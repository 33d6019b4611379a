use Rattle.std.proofs.Common.{ℕ, List, subst}
use Rattle.loop_core_model.specs.Marks.{Visit}
use Rattle.shadow_marks.specs.Standing.{StandFor}
use Rattle.private_copy.{specs.Visits.{visits_of}, proofs.VisitLaws.{visits_more}}
use Rattle.private_copy.proofs.private.Private.end.Goals as goal

pub returns-clause-visits : goal.returns-clause-visits
returns-clause-visits c visits runs accesses within = c.end_iteration.ensures.visits visits _ within.flags

pub returns-clause-planes : goal.returns-clause-planes
returns-clause-planes c first runs accesses is within stand =
    subst (λ (v : ℕ → List Visit). StandFor c.end_iteration.new.self v) (visits_more first runs accesses c.args.index
    is)
    (c.end_iteration.ensures.visits (visits_of first runs) _ within.flags stand)
