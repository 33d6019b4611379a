-- Bits of elements that run on one after another.
use Rattle.std.proofs.Common.{◌≡◌, ◌≢◌, ℕ, zero, suc, ◌+◌, ◌-◌, ◌*◌, ◌/◌, ◌%◌, ◌^◌, ◌<◌, ◌≤◌, ◌==◌, ◌||◌, eqb, max}
use Rattle.std.proofs.Common.{Bool, true, false, List, length, set, get_or, sym, ◌∙◌, ap, inl, inr, arith}
use Rattle.std.proofs.Common.{◌⊎◌, get_or-set_same, ne_eqb}
use Rattle.lane_stamps.specs.Sites.{element_named}
use Rattle.std.{proofs.Common.{get_or-set_other}, specs.{Prelude.{bit_or}, Int.{bit_at}}}
use Rattle.std.proofs.{Math.Bool.{or_assoc, or-false}, lemmas.Bool.{cases_eq, cases_lt, Decides.{nat_tests}}}
use Rattle.std.proofs.lemmas.Nat.Bits.{bit_at_or, bit_at-lt, bit_at_mask_above, bit_at_mask_below, bit_at_mask_inside}
use Rattle.loop_core_model.specs.Planes.{bit_of}
use Rattle.shadow_marks.{specs.Runs.{is_between}, proofs.BetweenLaws.{between_above, between_below, between_in}}
use Rattle.loop_marks.{specs.SiteMarks.{SetsBits, over_lanes, runs_on, runs_to, set_by_lane}, proofs.UnseenLaws.{or_if}}

max_tested : (x y : ℕ) → x < 2 → y < 2 → eqb (max x y) 1 ≡ (eqb x 1 || eqb y 1)
max_tested x y h k = grind (arith, nat_tests)

-- the bits of a word that are those of elements from one up to another
mask_bits : (from to e : ℕ) → from < to → to ≤ 64 * (from / 64) + 64 → e / 64 ≡ from / 64
    → eqb (bit_at (2 ^ (to - 64 * (from / 64)) - 2 ^ (from - 64 * (from / 64))) (e % 64)) 1 ≡ is_between from to e
mask_bits from to e rising within same = elim (cases_lt e from) [
  | inl below ↦
      ap (λ (bit : ℕ). eqb bit 1) (bit_at_mask_below (from - 64 * (from / 64)) (to - 64 * (from / 64)) (e % 64)
      (omega (arith, below, same)))
      ∙ sym (between_below from to e below)
  | inr above ↦ elim (cases_lt e to) [
    | inl under ↦
        ap (λ (bit : ℕ). eqb bit 1) (bit_at_mask_inside (from - 64 * (from / 64)) (to - 64 * (from / 64)) (e % 64)
        (omega (arith, above, same)) (omega (arith, under, same)))
        ∙ sym (between_in from to e above under)
    | inr past ↦
        ap (λ (bit : ℕ). eqb bit 1) (bit_at_mask_above (from - 64 * (from / 64)) (to - 64 * (from / 64)) (e % 64)
        (omega (arith, past, same)))
        ∙ sym (between_above from to e past)
  ]
]

-- a plane after they were ored in
word_set : (words : List ℕ) (from to mask e : ℕ) → from < to → to ≤ 64 * (from / 64) + 64 → from / 64 < length words
    → mask ≡ 2 ^ (to - 64 * (from / 64)) - 2 ^ (from - 64 * (from / 64))
    → bit_of (set words (from / 64) (bit_or (get_or words (from / 64) 0) mask)) e
    ≡ (bit_of words e || is_between from to e)
word_set words from to mask e rising within inside is =
    let word : ℕ = get_or words (from / 64) 0 in
    let left : ℕ = bit_or word mask in
    elim (cases_eq (e / 64) (from / 64)) [
      | inl same ↦
          ap (λ (k : ℕ). eqb (bit_at (get_or (set words (from / 64) left) k 0) (e % 64)) 1) same
          ∙ ap (λ (w : ℕ). eqb (bit_at w (e % 64)) 1) (get_or-set_same words (from / 64) left 0 inside)
          ∙ ap (λ (bit : ℕ). eqb bit 1) (bit_at_or word mask (e % 64))
          ∙ max_tested (bit_at word (e % 64)) (bit_at mask (e % 64)) (bit_at-lt word (e % 64)) (bit_at-lt mask (e % 64))
          ∙ ap (λ (m : ℕ). eqb (bit_at word (e % 64)) 1 || eqb (bit_at m (e % 64)) 1) is
          ∙ ap (λ (b : Bool). eqb (bit_at word (e % 64)) 1 || b) (mask_bits from to e rising within same)
          ∙ ap (λ (k : ℕ). eqb (bit_at (get_or words k 0) (e % 64)) 1 || is_between from to e) (sym same)
      | inr apart ↦
          ap (λ (w : ℕ). eqb (bit_at w (e % 64)) 1) (get_or-set_other words (from / 64) (e / 64) left 0 apart)
          ∙ sym (ap (λ (b : Bool). bit_of words e || b) (outside apart) ∙ or-false (bit_of words e))
    ]
  where
    outside : e / 64 ≢ from / 64 → is_between from to e ≡ false
    outside apart = elim (cases_lt e from) [
      | inl below ↦ between_below from to e below
      | inr above ↦ between_above from to e (omega (arith, above, apart, within))
    ]

both_runs : (start from to e : ℕ) → start ≤ from → from ≤ to
    → (is_between start from e || is_between from to e) ≡ is_between start to e
both_runs start from to e first second = grind (arith, nat_tests)

pub run_next : (old words : List ℕ) (start from to mask : ℕ) → start ≤ from → from < to → to ≤ 64 * (from / 64) + 64
    → from / 64 < length words → mask ≡ 2 ^ (to - 64 * (from / 64)) - 2 ^ (from - 64 * (from / 64))
    → ((e : ℕ) → bit_of words e ≡ (bit_of old e || is_between start from e))
    → (e : ℕ) → bit_of (set words (from / 64) (bit_or (get_or words (from / 64) 0) mask)) e
    ≡ (bit_of old e || is_between start to e)
run_next old words start from to mask first rising within inside is before e =
    word_set words from to mask e rising within inside is
    ∙ ap (λ (b : Bool). b || is_between from to e) (before e)
    ∙ or_assoc (bit_of old e) (is_between start from e) (is_between from to e)
    ∙ ap (λ (b : Bool). bit_of old e || b) (both_runs start from to e first (omega (arith, rising)))

-- lane by lane it is the same
empty_run : (start e : ℕ) → is_between start (start + 0) e ≡ false
empty_run start e = grind (arith, nat_tests)

one_more : (start lane e : ℕ) → (is_between start (start + lane) e || (start + lane == e))
    ≡ is_between start (start + suc lane) e
one_more start lane e = grind (arith, nat_tests)

over_run : (start lanes e : ℕ) (old : Bool)
    → over_lanes set_by_lane (runs_to start e) lanes old ≡ (old || is_between start (start + lanes) e)
over_run start zero e old = sym (ap (λ (b : Bool). old || b) (empty_run start e) ∙ or-false old)
over_run start (suc lane) e old =
    or_if (start + lane == e) (over_lanes set_by_lane (runs_to start e) lane old)
    ∙ ap (λ (b : Bool). b || (start + lane == e)) (over_run start lane e old)
    ∙ or_assoc old (is_between start (start + lane) e) (start + lane == e)
    ∙ ap (λ (b : Bool). old || b) (one_more start lane e)

pub run_all : (old new : List ℕ) (start lanes end : ℕ) → length new ≡ length old → end ≡ start + lanes
    → ((e : ℕ) → bit_of new e ≡ (bit_of old e || is_between start end e)) → SetsBits (runs_to start) lanes old new
run_all old new start lanes end count is bits = record {
  count = count;
  bits = λ e. bits e ∙ ap (λ (past : ℕ). bit_of old e || is_between start past e) is
      ∙ sym (over_run start lanes e (bit_of old e));
}

-- places that run on one after another, halves or elements: the first so many get to all elements up to the last's
abbrev past_last : (halves : Bool) (first n : ℕ) → ℕ
past_last halves first n = element_named halves (first + n) + 1

one_place : (halves : Bool) (first e : ℕ) → (element_named halves (first + 0) == e)
    ≡ is_between (element_named halves first) (past_last halves first 0) e
one_place true first e = grind (arith, nat_tests)
one_place false first e = grind (arith, nat_tests)

one_place_more : (halves : Bool) (first n e : ℕ)
    → (is_between (element_named halves first) (past_last halves first n) e
    || (element_named halves (first + suc n) == e))
    ≡ is_between (element_named halves first) (past_last halves first (suc n)) e
one_place_more true first n e = grind (arith, nat_tests)
one_place_more false first n e = grind (arith, nat_tests)

over_places : (halves : Bool) (first n e : ℕ) (old : Bool) → over_lanes set_by_lane (runs_on halves first e) (suc n) old
    ≡ (old || is_between (element_named halves first) (past_last halves first n) e)
over_places halves first zero e old =
    or_if (element_named halves (first + 0) == e) old ∙ ap (λ (b : Bool). old || b) (one_place halves first e)
over_places halves first (suc n) e old =
    or_if (element_named halves (first + suc n) == e) (over_lanes set_by_lane (runs_on halves first e) (suc n) old)
    ∙ ap (λ (b : Bool). b || (element_named halves (first + suc n) == e)) (over_places halves first n e old)
    ∙ or_assoc old (is_between (element_named halves first) (past_last halves first n) e)
    (element_named halves (first + suc n) == e)
    ∙ ap (λ (b : Bool). old || b) (one_place_more halves first n e)

pub places_set : (halves : Bool) (first n lanes count : ℕ) (old new : List ℕ) → lanes ≡ suc n
    → element_named halves first + count ≡ past_last halves first n
    → SetsBits (runs_to (element_named halves first)) count old new → SetsBits (runs_on halves first) lanes old new
places_set halves first n lanes count old new more is sets = rw more (record {
  count = sets.count;
  bits = λ e. sets.bits e ∙ over_run (element_named halves first) count e (bit_of old e)
      ∙ ap (λ (past : ℕ). bit_of old e || is_between (element_named halves first) past e) is
      ∙ sym (over_places halves first n e (bit_of old e));
})

pub element_rises : (halves : Bool) (first more : ℕ) → element_named halves first ≤ element_named halves (first + more)
element_rises true first more = omega arith
element_rises false first more = omega arith

-- no lane gets to an element before them or past them
pub gets_outside : (halves : Bool) (first lanes e : ℕ)
    → (e < element_named halves first) ⊎ (element_named halves (first + (lanes - 1)) < e) → (lane : ℕ) → lane < lanes
    → runs_on halves first e lane ≡ false
gets_outside true first lanes e (inl below) lane less = ne_eqb _ _ (λ same. omega (arith, below, same))
gets_outside true first lanes e (inr past) lane less = ne_eqb _ _ (λ same. omega (arith, past, same, less))
gets_outside false first lanes e (inl below) lane less = ne_eqb _ _ (λ same. omega (arith, below, same))
gets_outside false first lanes e (inr past) lane less = ne_eqb _ _ (λ same. omega (arith, past, same, less))
