use Rattle.std.proofs.Common.{refl}
use Rattle.private_copy.proofs.AccessLaws.{shown_length}
use Rattle.loop_core_gather.proofs.gathered.Gathered.elements.Goals as goal

pub returns : goal.returns
returns c = rw (← c.self.view_is, shown_length) refl
