use Rattle.loop_core_model.proofs.ScheduleLaws.{ended_schedules_complete}
use Rattle.loop_core_model.proofs.law_of_schedules.Goals as goal

pub returns : goal.returns
returns c = ended_schedules_complete
