-- What a result is.
use Rattle.std.{proofs.Common.{◌≡◌, Result, Ok, Err, sym, ◌∙◌, refl}, specs.Result.{result_map_both}}

-- a result is Ok of one value
pub same_ok : {A E : Type 0} (a b : A) (r : Result A E) → r ≡ Ok a → r ≡ Ok b → a ≡ b
same_ok a b (Ok c) e h = (let left : c ≡ a = cc in let right : c ≡ b = cc in sym left ∙ right)
same_ok a b (Err fault) e h = absurd cc

-- a value that is mapped is there
pub record Mapped {A B E : Type 0} (f : A → B) (r : Result A E) (y : B) : Type 0 where
  pub value : A
  pub is_there : r ≡ Ok value
  pub is_image : f value ≡ y

pub mapped : {A B E : Type 0} (f : A → B) (r : Result A E) (y : B) → result_map_both f (λ e. e) r ≡ Ok y → Mapped f r y
mapped f (Ok x) y e = record { value = x; is_there = refl; is_image = cc }
mapped f (Err error) y e = absurd cc
