-- A list is written a run at a time, from its beginning on.
use Rattle.std.proofs.Common.{◌≡◌, ℕ, ◌+◌, ◌-◌, ◌<◌, ◌≤◌, List, length, get_or, refl, ◌∙◌, inl, inr, arith}
use Rattle.std.{specs.Simd.Lanes.{put_chunk}, proofs.lemmas.{Bool.{cases_lt}, Simd.{get_or-put_chunk_above}}}
use Rattle.std.proofs.lemmas.Simd.{length-put_chunk, get_or-put_chunk_below, get_or-put_chunk_at}
use Rattle.lane_planes.specs.Writes.{HasLanes, Writes}

-- so far a run is written up to an index, of those up to another
pub record IsWritten (rule : ℕ → ℕ) (from at upto : ℕ) (old now : List ℕ) : Type 0 where
  pub order : from ≤ at
  pub within : at ≤ upto
  pub words : Writes rule from at old now

-- a vector is written
pub writes_lanes : (rule : ℕ → ℕ) (at n : ℕ) (old lanes : List ℕ) → at + n ≤ length old
    → HasLanes n (λ k. rule (at + k)) lanes → Writes rule at (at + n) old (put_chunk at old lanes)
writes_lanes rule at n old lanes room new = record {
  long = length-put_chunk at old lanes;
  written = λ i low high.
      let there : at + (i - at) ≡ i = omega arith in
      rw there at (get_or-put_chunk_at at old lanes (i - at) 0 (omega arith) (omega arith) ∙ new.each (i - at)
      (omega arith));
  below = λ i low. get_or-put_chunk_below at old lanes i 0 low;
  above = λ i high. get_or-put_chunk_above at old lanes i 0 (omega arith);
}

-- what a rule tells is there already
pub writes_same : (rule : ℕ → ℕ) (at upto : ℕ) (xs : List ℕ) → ((i : ℕ) → at ≤ i → i < upto → get_or xs i 0 ≡ rule i)
    → Writes rule at upto xs xs
writes_same rule at upto xs same = record { long = refl; written = same; below = λ i low. refl; above = λ i high. refl }

-- after a run the next one is written, by a rule that says the same there
pub writes_on : {rule step : ℕ → ℕ} {from at upto : ℕ} {old mid now : List ℕ} → Writes rule from at old mid
    → Writes step at upto mid now → from ≤ at → at ≤ upto → ((i : ℕ) → at ≤ i → step i ≡ rule i)
    → Writes rule from upto old now
writes_on {rule} {step} {from} {at} before after rising going same = record {
  long = after.long ∙ before.long;
  written = λ i low high. elim (cases_lt i at) [
    | inl earlier ↦ after.below i earlier ∙ before.written i low earlier
    | inr here ↦ after.written i here high ∙ same i here
  ];
  below = λ i low. after.below i (omega arith) ∙ before.below i low;
  above = λ i high. after.above i high ∙ before.above i (omega arith);
}
