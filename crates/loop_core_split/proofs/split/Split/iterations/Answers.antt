use Rattle.std.proofs.Common.{◌≡◌, ℕ, None, ◌-◌, length, List, slice_index_or, sym}
use Rattle.loop_core_model.specs.Split.{last_bound, split_fault}
use Rattle.loop_core_split.{specs.Splits.{IsSplit}, proofs.SplitFacts.{last_is}}
use Rattle.loop_core_split.proofs.split.Split.iterations.Goals as goal

last : (xs bounds : List ℕ) (count : ℕ) → xs ≡ bounds → count ≡ length bounds → IsSplit bounds
    → slice_index_or xs (count - 1) 0 ≡ last_bound 0 bounds
last xs bounds count same long is = rw (same, long) (last_is bounds is)

last_split : (xs bounds : List ℕ) (count : ℕ) → xs ≡ bounds → count ≡ length bounds → IsSplit bounds
    → split_fault bounds (slice_index_or xs (count - 1) 0) ≡ None
last_split xs bounds count same long is = rw (last xs bounds count same long is) is

pub returns-clause-last : goal.returns-clause-last
returns-clause-last c = rw (sym c.self.view_is) (last c.deref.result.now c.self.inside.bounds.items c.len.result
    c.deref.ensures.0 c.len.ensures.value c.self.invariant)

pub returns-clause-split : goal.returns-clause-split
returns-clause-split c = rw (sym c.self.view_is) (last_split c.deref.result.now c.self.inside.bounds.items c.len.result
    c.deref.ensures.0 c.len.ensures.value c.self.invariant)
