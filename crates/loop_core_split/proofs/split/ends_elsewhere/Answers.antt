use Rattle.std.proofs.Common.{◌≡◌, ◌<◌, ℕ, ◌-◌, length, List, [], ◌∷◌, slice_index_or, arith, refl, sym, ap, ◌∙◌}
use Rattle.std.specs.Prelude.{not, ◌==◌, ◌||◌}
use Rattle.loop_core_model.specs.Split.{last_bound, ends_amiss}
use Rattle.loop_core_split.proofs.split.ends_elsewhere.Goals as goal

last_is : (bound : ℕ) (bounds : List ℕ) → last_bound bound bounds ≡ slice_index_or (bound ∷ bounds) (length bounds) 0
last_is bound [] = refl
last_is bound (next ∷ bounds) = last_is next bounds

by_ends : (bound last_one last n : ℕ) → bound ≡ 0 → last ≡ last_one
    → not (last == n) ≡ (not (bound == 0) || not (last_one == n))
by_ends bound last_one last n a b = rw (a, b) refl

by_last : (bounds : List ℕ) (n first last : ℕ) → 0 < length bounds → first ≡ slice_index_or bounds 0 0
    → last ≡ slice_index_or bounds (length bounds - 1) 0 → first ≡ 0 →
    not (last == n) ≡ ends_amiss bounds n
by_last [] n first last some a b zero_first = absurd (omega arith)
by_last (bound ∷ bounds) n first last some a b zero_first =
    let long : length (bound ∷ bounds) - 1 ≡ length bounds = omega arith in
    let ends : last ≡ last_bound bound bounds = b ∙ (ap (λ (k : ℕ). slice_index_or (bound ∷ bounds) k 0) long
    ∙ sym (last_is bound bounds)) in
    by_ends bound (last_bound bound bounds) last n (sym a ∙ zero_first) ends

pub returns-else-first-ne0 : goal.returns-else-first-ne0
returns-else-first-ne0 c = by_last c.args.bounds.now c.args.n c.in-Some-Some.first.now c.in-Some-Some.last.now
    (omega (arith, c.in-Some-Some.ensures.item.3.0)) (c.in-Some-Some.ensures.item.4 (omega arith) 0)
    (c.in-Some-Some.ensures'.item.3.1 0) c.if-first-ne0.false
