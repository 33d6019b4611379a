-- What holds of each element of lists.
use Rattle.std.{proofs.Common.{◌≡◌, List, [], ◌∷◌, ◌++◌, All, Some}, specs.Prelude.{Result, IfOk}}
use Rattle.std.proofs.lemmas.List.Elements.{All-append, All-push, All-pop, All-same}

-- of a list with one element more
pub pushed : {X : Type 0} (P : X → Type 0) (xs ys : List X) (x : X) → ys ≡ xs ++ x ∷ [] → All P xs → P x → All P ys
pushed P xs ys x same all here = All-same P ys (xs ++ x ∷ []) same (All-push P xs x all here)

-- of one list after another
pub appended : {X : Type 0} (P : X → Type 0) (xs ys zs : List X) → zs ≡ xs ++ ys → All P xs → All P ys → All P zs
appended P xs ys zs same first second = All-same P zs (xs ++ ys) same (All-append P xs ys first second)

-- and of the last of results, and of those before it
pub popped : {A E : Type 0} (Q : A → Type 0) (xs ys : List (Result A E)) (r : Result A E) → xs ≡ ys ++ r ∷ []
    → All (λ s. IfOk s Q) xs → All (λ s. IfOk s Q) ys × IfOk r Q
popped Q xs ys r same all = All-pop (λ s. IfOk s Q) xs ys (Some r) same all
