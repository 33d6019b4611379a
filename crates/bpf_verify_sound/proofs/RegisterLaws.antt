-- Registers, one by one.
use Rattle.std.{proofs.Common.{ℕ, zero, suc, List, [], ◌∷◌, get_or, set}, specs.List.{AllByRecursion}}
use Rattle.bpf_verify_model.specs.declared.abstract_value.AbstractValue.{AbstractValue}
use Rattle.bpf_verify_model.specs.declared.abstract_value.AbstractValue.TheVariants as known
use Rattle.bpf_step_model.specs.State.{Value, Unwritten}
use Rattle.bpf_verify_sound.specs.Containment.{ContainsValue, ContainEach}

pub contain-set : (xs : List AbstractValue) (vs : List Value) (i : ℕ) (x : AbstractValue) (v : Value)
    → ContainEach xs vs → ContainsValue x v →
    ContainEach (set xs i x) (set vs i v)
contain-set [] vs i x v c d = tt
contain-set (y ∷ xs) [] i x v c d = absurd c
contain-set (y ∷ xs) (w ∷ vs) zero x v c d = (d, c.1)
contain-set (y ∷ xs) (w ∷ vs) (suc i) x v c d = (c.0, contain-set xs vs i x v c.1 d)

pub contain-at : (xs : List AbstractValue) (vs : List Value) (i : ℕ) → ContainEach xs vs
    → ContainsValue (get_or xs i known.Unwritten) (get_or vs i Unwritten)
contain-at [] vs i c = tt
contain-at (x ∷ xs) [] i c = absurd c
contain-at (x ∷ xs) (v ∷ vs) zero c = c.0
contain-at (x ∷ xs) (v ∷ vs) (suc i) c = contain-at xs vs i c.1

-- what is true of each stays so
pub all-set : {A : Type 0} (P : A → Type 0) (xs : List A) (i : ℕ) (x : A) → AllByRecursion P xs → P x
    → AllByRecursion P (set xs i x)
all-set P [] i x all here = tt
all-set P (y ∷ xs) zero x all here = (here, all.1)
all-set P (y ∷ xs) (suc i) x all here = (all.0, all-set P xs i x all.1 here)

pub all-at : {A : Type 0} (P : A → Type 0) (xs : List A) (i : ℕ) (d : A) → AllByRecursion P xs → P d → P (get_or xs i d)
all-at P [] i d all default = default
all-at P (x ∷ xs) zero d all default = all.0
all-at P (x ∷ xs) (suc i) d all default = all-at P xs i d all.1 default
