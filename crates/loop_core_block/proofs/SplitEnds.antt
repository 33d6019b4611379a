-- Where a split ends.
use Rattle.std.proofs.Common.{◌≡◌, ℕ, List, None, sym, ◌∙◌}
use Rattle.loop_core_model.{specs.Split.{last_bound, split_fault}, proofs.SplitLaws.{faultless}}
use Rattle.loop_core_split.proofs.SplitFacts.{last_is, split_is}

pub ends_at : (bounds : List ℕ) (n : ℕ) → split_fault bounds n ≡ None → last_bound 0 bounds ≡ n
ends_at bounds n is = sym (last_is bounds (split_is bounds n is)) ∙ (faultless n bounds is).last
