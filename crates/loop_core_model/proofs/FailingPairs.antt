-- A test fails exactly where there is a pair of iterations that fails it.
use Rattle.std.proofs.Common.{◌≡◌, ℕ, zero, suc, ◌<◌, Bool, true, false, ◌&&◌, ◌||◌, inl, inr, List, [], ◌∷◌}
use Rattle.std.{proofs.Common.{length, refl, arith}, specs.{Prelude.{◌↔◌, slice_index_or}, List.{list_any}}}
use Rattle.std.proofs.lemmas.{Bool.{and_from, and_parts, or_cases, or_left, or_right}, List.Folds.{list_any_at}}
use Rattle.array_maps.specs.Accesses.{Action}
use Rattle.loop_core_model.specs.{declared.loop_test.Test.{Test, TheVariants.{Lrpd, Flow}}, Actions.{writes, exposed}}
use Rattle.loop_core_model.specs.Conflict.{fails, Opposed, FailingPair, FailsByPair}

-- some item passes, at this index
pub record PassesAt (p : List Action → Bool) (xs : List (List Action)) : Type 0 where
  pub index : ℕ
  pub within : index < length xs
  pub passes : p (slice_index_or xs index []) ≡ true

any_at : (p : List Action → Bool) (xs : List (List Action)) → list_any p xs ≡ true → PassesAt p xs
any_at p [] h = absurd (cc)
any_at p (x ∷ xs) h = elim (or_cases (p x) (list_any p xs) h) [
  | inl here ↦ record { index = 0; within = omega arith; passes = here }
  | inr there ↦ (let at = any_at p xs there in record {
    index = suc at.index;
    within = (let h = at.within in omega arith);
    passes = at.passes;
  })
]

-- the first iteration fails the test as a writer with those after it, or as a reader, which
-- counts by the LRPD test alone
abbrev pub writes_first : List Action → List (List Action) → Bool
writes_first it its = writes it && list_any exposed its

abbrev pub reads_first : Test → List Action → List (List Action) → Bool
reads_first Lrpd it its = exposed it && list_any writes its
reads_first Flow it its = false

fails_none : (test : Test) → fails test [] ≡ false
fails_none Lrpd = refl
fails_none Flow = refl

fails_more : (test : Test) (it : List Action) (its : List (List Action))
    → fails test (it ∷ its) ≡ (writes_first it its || (reads_first test it its || fails test its))
fails_more Lrpd it its = refl
fails_more Flow it its = refl

opposed_first : (test : Test) (reader : ℕ) → Opposed test 0 (suc reader)
opposed_first Lrpd reader = omega arith
opposed_first Flow reader = omega arith

opposed_later : (test : Test) (writer reader : ℕ) → Opposed test writer reader ↔ Opposed test (suc writer) (suc reader)
opposed_later Lrpd writer reader = (λ h. omega arith, λ h. omega arith)
opposed_later Flow writer reader = (λ h. omega arith, λ h. omega arith)

not_opposed : (test : Test) → Opposed test 0 0 → ⊥
not_opposed Lrpd h = omega arith
not_opposed Flow h = omega arith

-- the first iteration writes, and one after it reads
reader_behind : (test : Test) (it : List Action) (its : List (List Action)) → writes_first it its ≡ true
    → FailingPair test (it ∷ its)
reader_behind test it its h =
    let parts = and_parts (writes it) _ h in
    let at = any_at exposed its parts.1 in
    record {
      writer = 0;
      reader = suc at.index;
      writer_within = omega arith;
      reader_within = (let k = at.within in omega arith);
      opposed = opposed_first test at.index;
      writing = parts.0;
      reading = at.passes;
    }

-- the first iteration reads, and one after it writes
writer_behind : (test : Test) (it : List Action) (its : List (List Action)) → reads_first test it its ≡ true
    → FailingPair test (it ∷ its)
writer_behind Lrpd it its h =
    let parts = and_parts (exposed it) _ h in
    let at = any_at writes its parts.1 in
    record {
      writer = suc at.index;
      reader = 0;
      writer_within = (let k = at.within in omega arith);
      reader_within = omega arith;
      opposed = omega arith;
      writing = at.passes;
      reading = parts.0;
    }
writer_behind Flow it its h = absurd (cc)

-- both stand after the first
both_behind : (test : Test) (it : List Action) (its : List (List Action)) → FailingPair test its
    → FailingPair test (it ∷ its)
both_behind test it its c =
    record {
      writer = suc c.writer;
      reader = suc c.reader;
      writer_within = (let k = c.writer_within in omega arith);
      reader_within = (let k = c.reader_within in omega arith);
      opposed = (opposed_later test c.writer c.reader).0 c.opposed;
      writing = c.writing;
      reading = c.reading;
    }

pair_of : (test : Test) (its : List (List Action)) → fails test its ≡ true → FailingPair test its
pair_of test [] h = absurd (let none = fails_none test in cc)
pair_of test (it ∷ its) h =
    elim (or_cases (writes_first it its) _ (rw (fails_more test it its) at h)) [
      | inl writer ↦ reader_behind test it its writer
      | inr h ↦ elim (or_cases (reads_first test it its) _ h) [
        | inl reader ↦ writer_behind test it its reader
        | inr later ↦ both_behind test it its (pair_of test its later)
      ]
    ]

-- a pair fails the test
fails_at : (test : Test) (its : List (List Action)) (writer reader : ℕ) → writer < length its → reader < length its
    → Opposed test writer reader → writes (slice_index_or its writer []) ≡ true
    → exposed (slice_index_or its reader []) ≡ true → fails test its ≡ true
fails_at test [] writer reader inside inside' opposed w r = absurd (omega arith)
fails_at test (it ∷ its) zero zero inside inside' opposed w r = absurd (not_opposed test opposed)
fails_at test (it ∷ its) zero (suc reader) inside inside' opposed w r =
    rw (fails_more test it its) (or_left (writes_first it its) _ (and_from (writes it) _ w
    (list_any_at exposed its reader [] (omega arith) r)))
fails_at Lrpd (it ∷ its) (suc writer) zero inside inside' opposed w r =
    or_right (writes_first it its) _ (or_left (exposed it && list_any writes its) _ (and_from (exposed it) _ r
    (list_any_at writes its writer [] (omega arith) w)))
fails_at Flow (it ∷ its) (suc writer) zero inside inside' opposed w r = absurd (omega arith)
fails_at test (it ∷ its) (suc writer) (suc reader) inside inside' opposed w r =
    rw (fails_more test it its) (or_right (writes_first it its) _ (or_right (reads_first test it its) _
    (fails_at test its writer reader (omega arith) (omega arith) ((opposed_later test writer reader).1 opposed) w r)))

pub fails_by_pair : FailsByPair
fails_by_pair test its = (
  pair_of test its,
  λ c. fails_at test its c.writer c.reader c.writer_within c.reader_within c.opposed c.writing c.reading,
)
