-- Lists that meet element by element.
use Rattle.std.proofs.Common.{◌≡◌, ℕ, zero, suc, ◌+◌, ◌<◌, List, [], ◌∷◌, map, length, get_or, set, refl, ap, sym, ◌∙◌}
use Rattle.std.{proofs.Common.{subst, arith, add-one, ◌≤◌}, specs.Prelude.{zip}}

-- two lists that meet up to an index, and from there on the first
abbrev pub met_to : {A : Type 0} → (A → A → A) → List A → List A → ℕ → List A
met_to f [] ys i = []
met_to f (x ∷ xs) [] i = x ∷ xs
met_to f (x ∷ xs) (y ∷ ys) zero = x ∷ xs
met_to f (x ∷ xs) (y ∷ ys) (suc i) = f x y ∷ met_to f xs ys i

pub met_to-none : {A : Type 0} (f : A → A → A) (xs ys : List A) → met_to f xs ys 0 ≡ xs
met_to-none f [] ys = refl
met_to-none f (x ∷ xs) [] = refl
met_to-none f (x ∷ xs) (y ∷ ys) = refl

pub length-met_to : {A : Type 0} (f : A → A → A) (xs ys : List A) (i : ℕ) → length (met_to f xs ys i) ≡ length xs
length-met_to f [] ys i = refl
length-met_to f (x ∷ xs) [] i = refl
length-met_to f (x ∷ xs) (y ∷ ys) zero = refl
length-met_to f (x ∷ xs) (y ∷ ys) (suc i) = ap suc (length-met_to f xs ys i)

pub met_to-all : {A : Type 0} (f : A → A → A) (xs ys : List A) (i : ℕ) → length xs ≡ i → length ys ≡ i →
    met_to f xs ys i ≡ map (λ (pair : A × A). f pair.0 pair.1) (zip xs ys)
met_to-all f [] ys i m n = refl
met_to-all f (x ∷ xs) [] i m n = absurd (omega arith)
met_to-all f (x ∷ xs) (y ∷ ys) zero m n = absurd (omega arith)
met_to-all {A = A} f (x ∷ xs) (y ∷ ys) (suc i) m n =
    ap (λ (zs : List A). f x y ∷ zs) (met_to-all f xs ys i (omega arith) (omega arith))

-- the element at the index is still the first's
pub get_or-met_to : {A : Type 0} (f : A → A → A) (xs ys : List A) (i : ℕ) (d : A) → get_or (met_to f xs ys i) i d
    ≡ get_or xs i d
get_or-met_to f [] ys i d = refl
get_or-met_to f (x ∷ xs) [] i d = refl
get_or-met_to f (x ∷ xs) (y ∷ ys) zero d = refl
get_or-met_to f (x ∷ xs) (y ∷ ys) (suc i) d = get_or-met_to f xs ys i d

-- one more
pub met_to-more : {A : Type 0} (f : A → A → A) (xs ys : List A) (i : ℕ) (d e : A) → i < length xs → i < length ys →
    set (met_to f xs ys i) i (f (get_or xs i d) (get_or ys i e)) ≡ met_to f xs ys (suc i)
met_to-more f [] ys i d e m n = absurd (omega arith)
met_to-more f (x ∷ xs) [] i d e m n = absurd (omega arith)
met_to-more {A = A} f (x ∷ xs) (y ∷ ys) zero d e m n = ap (λ (zs : List A). f x y ∷ zs) (sym (met_to-none f xs ys))
met_to-more {A = A} f (x ∷ xs) (y ∷ ys) (suc i) d e m n =
    ap (λ (zs : List A). f x y ∷ zs) (met_to-more f xs ys i d e (omega arith) (omega arith))

-- a loop's step, where the second list is seen as another
pub met_to-step : {A : Type 0} (f : A → A → A) (start now ys seen : List A) (i : ℕ) (d e x : A) →
    now ≡ met_to f start seen i → ys ≡ seen → i < length start → i < length ys → x ≡ f (get_or now i d) (get_or ys i e)
    →
    set now i x ≡ met_to f start seen (i + 1)
met_to-step {A = A} f start now ys seen i d e x so_far same m n is =
    let h : get_or now i d ≡ get_or start i d = ap (λ (l : List A). get_or l i d) so_far
    ∙ get_or-met_to f start seen i d in
    let value : x ≡ f (get_or start i d) (get_or seen i e) = is ∙ ap (λ (a : A). f a (get_or ys i e)) h
    ∙ ap (λ (l : List A). f (get_or start i d) (get_or l i e)) same in
    let m' : i < length seen = subst (λ (l : List A). i < length l) same n in
    ap (λ (l : List A). set l i x) so_far ∙ ap (λ (a : A). set (met_to f start seen i) i a) value
    ∙ met_to-more f start seen i d e m m'
    ∙ ap (met_to f start seen) (sym (add-one i))

-- its end
pub met_to-end : {A : Type 0} (f : A → A → A) (start view now ys seen : List A) (i n : ℕ) →
    now ≡ met_to f start seen i → start ≡ view → ys ≡ seen → n ≤ i → i ≤ n → length start ≡ n → length ys ≡ n →
    now ≡ map (λ (pair : A × A). f pair.0 pair.1) (zip view seen)
met_to-end {A = A} f start view now ys seen i n so_far opened same m m' k l =
    let e : i ≡ n = omega arith in
    so_far ∙ met_to-all f start seen i (k ∙ sym e) (sym (ap length same) ∙ l ∙ sym e)
    ∙ ap (λ (v : List A). map (λ (pair : A × A). f pair.0 pair.1) (zip v seen)) opened
