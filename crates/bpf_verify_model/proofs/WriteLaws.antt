-- What a loop over the bytes of a place has tested or marked so far.
use Rattle.std.proofs.Common.{◌≡◌, ℕ, zero, suc, ◌+◌, ◌-◌, ◌<◌, ◌≤◌, Bool, true, false, List, [], ◌∷◌, ◌++◌, length}
use Rattle.std.proofs.Common.{get_or, set, take, drop, replicate, refl, sym, ◌∙◌, ap, arith, get_or-take, get_or-drop}
use Rattle.std.{proofs.Common.{length-drop, take-append-drop, append-nil}, specs.Prelude.{slice_range}}
use Rattle.std.proofs.lemmas.List.{length-take, get_or_default, Folds.{list_all_at}, Sums.{list_all-from_AllPass}}
use Rattle.bpf_verify_model.specs.Written.{all_written, written_from}

get_or-slice_range : (xs : List Bool) (a b i : ℕ) → i < b - a → get_or (slice_range xs a b) i false ≡ get_or xs (a + i)
    false
get_or-slice_range xs a b i h = get_or-take (b - a) (drop a xs) i false h ∙ get_or-drop a xs i false

pub all_written-yes : (written : List Bool) (position size : ℕ)
    → ((k : ℕ) → position ≤ k → k < position + size → get_or written k false ≡ true) → all_written written position size
    ≡ true
all_written-yes written position size each =
    list_all-from_AllPass (λ byte. byte) (slice_range written position (position + size))
    (λ i d h.
    let below : i < position + size - position =
    omega (arith, length-take (position + size - position) (drop position written)) in
    get_or_default (slice_range written position (position + size)) i d false h
    ∙ get_or-slice_range written position (position + size) i below
    ∙ each (position + i) (omega arith) (omega arith))

pub all_written-no : (written : List Bool) (position size k : ℕ) → position + size ≤ length written
    → position ≤ k → k < position + size → get_or written k false ≡ false → all_written written position size ≡ false
all_written-no written position size k within low high none =
    let below : k - position < position + size - position = omega arith in
    let place : position + (k - position) ≡ k = omega arith in
    list_all_at (λ byte. byte) (slice_range written position (position + size)) (k - position) false
    (omega (arith, length-take (position + size - position) (drop position written), length-drop position written))
    (get_or-slice_range written position (position + size) (k - position) below
    ∙ ap (λ i. get_or written i false) place ∙ none)

pub written_from-none : (written : List Bool) (position size : ℕ) → size ≡ 0 → written_from written position size
    ≡ written
written_from-none written position size none =
    let here : position + 0 ≡ position = omega arith in
    rw (none, here, append-nil (take position written)) (take-append-drop position written)

marked_more : (written : List Bool) (position size end : ℕ) → end ≡ position + size → end < length written
    → set (take position written ++ replicate size true ++ drop end written) end true
    ≡ take position written ++ replicate (suc size) true ++ drop (suc end) written
marked_more [] position size end e h = absurd (omega arith)
marked_more (x ∷ xs) zero zero zero e h = refl
marked_more (x ∷ xs) zero zero (suc end) e h = absurd (omega arith)
marked_more (x ∷ xs) zero (suc size) zero e h = absurd (omega arith)
marked_more (x ∷ xs) zero (suc size) (suc end) e h =
    ap (λ (zs : List Bool). true ∷ zs) (marked_more xs zero size end (omega arith) (omega arith))
marked_more (x ∷ xs) (suc position) size zero e h = absurd (omega arith)
marked_more (x ∷ xs) (suc position) size (suc end) e h =
    ap (λ (zs : List Bool). x ∷ zs) (marked_more xs position size end (omega arith) (omega arith))

pub written_from-more : (written : List Bool) (position size end more : ℕ) → end ≡ position + size → more ≡ suc size
    → end < length written
    → set (written_from written position size) end true ≡ written_from written position more
written_from-more written position size end more e m h =
    let next : suc end ≡ position + more = omega arith in
    ap (λ at. set (take position written ++ replicate size true ++ drop at written) end true) (sym e)
    ∙ marked_more written position size end e h
    ∙ ap (λ at. take position written ++ replicate (suc size) true ++ drop at written) next
    ∙ ap (λ n. take position written ++ replicate n true ++ drop (position + more) written) (sym m)
