-- Elements that follow each other.
use Rattle.std.{proofs.Common.{◌≡◌, ℕ, ◌<◌, ◌≤◌, Bool, true, false, ◌&&◌, not, ◌∙◌, ap}, specs.Prelude.{nat_lt}}
use Rattle.std.proofs.{Math.Bool.{and-false}, lemmas.Bool.{lt-ltb, le-ltb}}
use Rattle.shadow_marks.specs.Runs.{is_between}

pub between_in : (first past e : ℕ) → first ≤ e → e < past → is_between first past e ≡ true
between_in first past e up under =
    ap (λ (b : Bool). not b && nat_lt e past) (le-ltb e first up) ∙ lt-ltb e past under

pub between_below : (first past e : ℕ) → e < first → is_between first past e ≡ false
between_below first past e below = ap (λ (b : Bool). not b && nat_lt e past) (lt-ltb e first below)

pub between_above : (first past e : ℕ) → past ≤ e → is_between first past e ≡ false
between_above first past e above =
    ap (λ (b : Bool). not (nat_lt e first) && b) (le-ltb e past above) ∙ and-false (not (nat_lt e first))
