use Rattle.std.proofs.Common.{◌<◌, ℕ, ◌-◌, length, List, sym, subst}
use Rattle.loop_core_split.proofs.SplitFacts.{within}
use Rattle.loop_core_split.proofs.split.Split.end.Goals as goal

pub returns-clause-within : goal.returns-clause-within
returns-clause-within c = rw (sym c.self.view_is, c.deref.ensures.0) (within c.self.inside.bounds.items c.args.block
    c.self.invariant (subst (λ (xs : List ℕ). c.args.block < length xs - 1) (sym c.self.view_is) c.requires))
