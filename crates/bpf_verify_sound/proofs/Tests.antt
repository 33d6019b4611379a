-- Tests that give something where they hold, and their parts.
use Rattle.std.proofs.Common.{◌≡◌, Bool, true, false, not, ◌&&◌, ◌||◌, Option, Some, None, refl}
use Rattle.std.specs.Prelude.{if◌then◌else◌}
use Rattle.bpf_verify_model.specs.Rules.{or_else}

-- where nothing was given, a test fails, and nothing was given later
pub test-fails : {A : Type 0} (test : Bool) (a : A) (later : Option A) → (if test then Some a else later) ≡ None
    → test ≡ false
test-fails true a later e = absurd cc
test-fails false a later e = refl

pub test-later : {A : Type 0} (test : Bool) (a : A) (later : Option A) → (if test then Some a else later) ≡ None
    → later ≡ None
test-later true a later e = absurd cc
test-later false a later e = e

pub or_else-one : {A : Type 0} (a b : Option A) → or_else a b ≡ None → a ≡ None
or_else-one None b e = refl
or_else-one (Some a) b e = e

pub or_else-two : {A : Type 0} (a b : Option A) → or_else a b ≡ None → b ≡ None
or_else-two None b e = e
or_else-two (Some a) b e = absurd cc

-- where something was given later, the test failed
pub later-some : {A : Type 0} (test : Bool) (a : A) (later : Option A) → (if test then None else later) ≡ Some a
    → (test ≡ false) × (later ≡ Some a)
later-some true a later e = absurd cc
later-some false a later e = (refl, e)

-- the parts of a test
pub and-one : (a b : Bool) → (a && b) ≡ true → a ≡ true
and-one true b e = refl
and-one false b e = absurd cc

pub and-two : (a b : Bool) → (a && b) ≡ true → b ≡ true
and-two true b e = e
and-two false b e = absurd cc

pub or-left : (a b : Bool) → (a || b) ≡ false → a ≡ false
or-left true b e = absurd cc
or-left false b e = refl

pub or-right : (a b : Bool) → (a || b) ≡ false → b ≡ false
or-right true b e = absurd cc
or-right false b e = e

pub not-not-true : (b : Bool) → not b ≡ false → b ≡ true
not-not-true true e = refl
not-not-true false e = absurd cc

-- what holds of both of two holds of the one that a test takes
pub if-either : {A : Type 0} (P : A → Type 0) (test : Bool) {a b : A} → (test ≡ true → P a) → (test ≡ false → P b)
    → P (if test then a else b)
if-either P true p q = p refl
if-either P false p q = q refl
