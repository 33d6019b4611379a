-- The split of which block 1 is a span.
use Rattle.std.proofs.Common.{◌≡◌, ℕ, ◌≤◌, [], ◌∷◌, None, refl, arith}
use Rattle.std.proofs.lemmas.Bool.{eq-eqb, le-ltb}
use Rattle.loop_core_model.specs.Split.{split_fault}

-- it has no fault
pub no_fault : (from past n : ℕ) → from ≤ past → past ≤ n → split_fault (0 ∷ from ∷ past ∷ n ∷ []) n ≡ None
no_fault from past n rising within =
    rw (le-ltb from 0 (omega arith), le-ltb past from rising, le-ltb n past within, eq-eqb n n refl) refl
