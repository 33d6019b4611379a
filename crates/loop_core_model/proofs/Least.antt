-- The least number that passes a test, and what a filter of a range keeps.
use Rattle.std.proofs.Common.{◌≡◌, ℕ, zero, suc, ◌+◌, ◌<◌, ◌≤◌, Bool, true, false, ◌⊎◌, inl, inr, [], ◌∷◌, Option}
use Rattle.std.{proofs.Common.{Some, None, refl, sym, ◌∙◌, ap, arith}, specs.Prelude.{if◌then◌else◌, min}}
use Rattle.std.{specs.{Option.{option_or}, List.{filter, range_with_len}}, proofs.lemmas.Bool.{cases_Bool, cases_eq}}
use Rattle.loop_core_model.specs.LeastBreak.{least_below, count_to, lesser}

-- below which nothing passes
abbrev pub NoneBelow : (ℕ → Bool) → ℕ → Type 0
NoneBelow test n = (j : ℕ) → j < n → test j ≡ false

-- one number more that fails
below_more : (test : ℕ → Bool) (n : ℕ) → NoneBelow test n → test n ≡ false → NoneBelow test (suc n)
below_more test n below here j h = elim (cases_eq j n) [
  | inl same ↦ ap test same ∙ here
  | inr other ↦ below j (omega arith)
]

-- what the least number is
pub record IsLeast (test : ℕ → Bool) (n index : ℕ) : Type 0 where
  pub within : index < n
  pub passes : test index ≡ true
  pub below : NoneBelow test index

abbrev pub LeastIs : (ℕ → Bool) → ℕ → Option ℕ → Type 0
LeastIs test n None = NoneBelow test n
LeastIs test n (Some index) = IsLeast test n index

one_more : (test : ℕ → Bool) (n : ℕ) (o : Option ℕ) (b : Bool) → test n ≡ b → LeastIs test n o
    → LeastIs test (suc n) (option_or o (if b then Some n else None))
one_more test n None false here below = below_more test n below here
one_more test n None true here below = record { within = omega arith; passes = here; below = below }
one_more test n (Some index) b here least = record {
  within = (let h = least.within in omega arith);
  passes = least.passes;
  below = least.below;
}

pub least_is : (test : ℕ → Bool) (n : ℕ) → LeastIs test n (least_below test n)
least_is test zero = λ j h. absurd (omega arith)
least_is test (suc n) = one_more test n (least_below test n) (test n) refl (least_is test n)

-- how a count of iterations ends: with all of them, none of which breaks, or with the first that does
pub record CountsTo (test : ℕ → Bool) (n count : ℕ) : Type 0 where
  pub within : count ≤ n
  pub ending : ((count ≡ n) × NoneBelow test n) ⊎ ((last : ℕ) × (count ≡ last + 1) × (test last ≡ true)
      × NoneBelow test last)

counts_by : (test : ℕ → Bool) (n : ℕ) (o : Option ℕ) → LeastIs test n o → CountsTo test n (count_to n o)
counts_by test n None below = record { within = omega arith; ending = inl (refl, below) }
counts_by test n (Some index) least = record {
  within = (let h = least.within in omega arith);
  ending = inr (index, refl, least.passes, least.below);
}

pub counts_to : (test : ℕ → Bool) (n : ℕ) → CountsTo test n (count_to n (least_below test n))
counts_to test n = counts_by test n (least_below test n) (least_is test n)

-- where a filter of a range keeps nothing, no number of it passes
pub filter_none : (test : ℕ → Bool) (from count : ℕ) → filter test (range_with_len from count) ≡ [] → (e : ℕ) → from ≤ e
    → e < from + count → test e ≡ false
filter_none test from zero h e low high = absurd (omega arith)
filter_none test from (suc count) h e low high = elim (cases_Bool (test from)) [
  | inl on ↦ (let some : from ∷ filter test (range_with_len (from + 1) count) ≡ [] = rw on at h in absurd (cc))
  | inr off ↦ elim (cases_eq e from) [
    | inl same ↦ ap test same ∙ off
    | inr other ↦ filter_none test (from + 1) count (rw off at h) e (omega arith) (omega arith)
  ]
]

-- the lesser of several
pub lesser_none : (a : Option ℕ) → lesser a None ≡ a
lesser_none None = refl
lesser_none (Some n) = refl

pub lesser_assoc : (a b c : Option ℕ) → lesser (lesser a b) c ≡ lesser a (lesser b c)
lesser_assoc None b c = refl
lesser_assoc (Some a) None c = refl
lesser_assoc (Some a) (Some b) None = refl
lesser_assoc (Some a) (Some b) (Some c) = ap Some (let e : min (min a b) c ≡ min a (min b c) = omega arith in e)

pub lesser_comm : (a b : Option ℕ) → lesser a b ≡ lesser b a
lesser_comm None b = sym (lesser_none b)
lesser_comm (Some a) None = refl
lesser_comm (Some a) (Some b) = ap Some (let e : min a b ≡ min b a = omega arith in e)

pub lesser_swap : (a b c : Option ℕ) → lesser a (lesser b c) ≡ lesser b (lesser a c)
lesser_swap a b c = sym (lesser_assoc a b c) ∙ ap (λ o. lesser o c) (lesser_comm a b) ∙ lesser_assoc b a c
