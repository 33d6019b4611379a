use Rattle.spec_run_workers.proofs.CompleteLaws.{workers_complete}
use Rattle.spec_run_workers.proofs.law_of_workers.Goals as goal

pub returns : goal.returns
returns c = workers_complete
