use Rattle.std.proofs.{Common.{ℕ, ◌<◌}, lemmas.List.Elements.{recursion_from_All}}
use Rattle.private_copy.proofs.AccessLaws.{words_small}
use Rattle.private_copy.proofs.store.PrivateStore.words_fit.Goals as goal

pub returns : goal.returns
returns c = recursion_from_All (λ (word : ℕ). word < 18446744073709551616) _ (λ k d inside. words_small c.args.self.now
    k d inside)
