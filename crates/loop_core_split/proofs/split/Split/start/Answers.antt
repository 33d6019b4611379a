use Rattle.std.proofs.Common.{◌<◌, ℕ, ◌-◌, length, List, sym, subst}
use Rattle.loop_core_split.proofs.SplitFacts.{in_order}
use Rattle.loop_core_split.proofs.split.Split.start.Goals as goal

pub returns-clause-order : goal.returns-clause-order
returns-clause-order c = rw (sym c.self.view_is, c.deref.ensures.0) (in_order c.self.inside.bounds.items c.args.block
    c.self.invariant (subst (λ (xs : List ℕ). c.args.block < length xs - 1) (sym c.self.view_is) c.requires))
