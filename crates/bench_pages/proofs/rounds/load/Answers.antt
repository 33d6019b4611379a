use Rattle.bench_pages.proofs.RestLaws.{within_words}
use Rattle.bench_pages.proofs.rounds.load.Goals as goal

pub load-requires-clause-within : goal.load-requires-clause-within
load-requires-clause-within c = within_words c.args.copy.now c.args.e c.requires.within
