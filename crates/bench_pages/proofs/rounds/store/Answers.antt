use Rattle.bench_pages.proofs.RestLaws.{within_words}
use Rattle.bench_pages.proofs.rounds.store.Goals as goal

pub store-requires-clause-within : goal.store-requires-clause-within
store-requires-clause-within c = within_words c.args.copy.now c.args.e c.requires.within
