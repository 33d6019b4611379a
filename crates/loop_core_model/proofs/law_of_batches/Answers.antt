use Rattle.loop_core_model.proofs.EffectLaws.{loop_by_each_lane}
use Rattle.loop_core_model.proofs.law_of_batches.Goals as goal

pub returns : goal.returns
returns c = record { each = loop_by_each_lane }
