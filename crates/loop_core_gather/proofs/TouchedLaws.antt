-- Pages marked by the bits of the blocks that touched them.
use Rattle.std.proofs.Common.{◌≡◌, ℕ, suc, ◌^◌, ◌<◌, ◌≤◌, true, eqb, List, [], ◌∷◌, length, get_or, set, Some, refl}
use Rattle.std.proofs.Common.{inl, inr, arith, get_or-set_same, get_or-set_other, eq-eqb, length-set}
use Rattle.std.specs.{Prelude.{bit_or, slice_get}, Int.{bit_at}}
use Rattle.std.proofs.{lemmas.Bool.{cases_Bool, cases_eq, eqb-true}, Math.Bool.{or-true}}
use Rattle.private_copy.specs.Touched.{has_page}
use Rattle.shadow_marks.proofs.BitLaws.{bit_ored}
use Rattle.loop_core_gather.specs.Touched.{is_page_marked, MarksPage, MarksPages}

-- a page is marked
pub marked : (words : List ℕ) (page mask bit : ℕ) → page < length words → mask ≡ 2 ^ bit
    → MarksPage words (set words page (bit_or (get_or words page 0) mask)) page bit
marked words page mask bit within is =
    let here : get_or (set words page (bit_or (get_or words page 0) mask)) page 0 ≡ bit_or (get_or words page 0) mask =
    get_or-set_same words page (bit_or (get_or words page 0) mask) 0 within in
    record {
      count = length-set words page (bit_or (get_or words page 0) mask);
      here = λ inside. rw (here, bit_ored (get_or words page 0) mask bit bit is, eq-eqb bit bit refl)
          (or-true (eqb (bit_at (get_or words page 0) bit) 1));
      stay = λ other k was. elim (cases_eq other page) [
        | inl same ↦ rw (same, here, bit_ored (get_or words page 0) mask bit k is, rw same at was) refl
        | inr apart ↦ rw (get_or-set_other words page other (bit_or (get_or words page 0) mask) 0 apart) was
      ];
    }

-- the first n pages of a list are marked by a bit
pub record MarkedSoFar (old new pages : List ℕ) (bit k : ℕ) : Type 0 where
  pub count : length new ≡ length old
  pub each : (j page : ℕ) → j < k → slice_get pages j ≡ Some page → page < length old → is_page_marked new page bit
      ≡ true
  pub stay : (other n : ℕ) → is_page_marked old other n ≡ true → is_page_marked new other n ≡ true

-- what holds of each page of a list holds of one that is there
found : (P : ℕ → Type 0) (pages : List ℕ) (page : ℕ) → ((j q : ℕ) → j < length pages → slice_get pages j ≡ Some q → P q)
    → has_page pages page ≡ true → P page
found P [] page each has = absurd (cc)
found P (q ∷ pages) page each has = elim (cases_Bool (eqb page q)) [
  | inl same ↦ rw (eqb-true page q same) (each 0 q (omega arith) refl)
  | inr other ↦ found P pages page (λ j r below. each (suc j) r (omega arith)) (rw other at has)
]

pub all_pages : (old new pages : List ℕ) (bit k : ℕ) → length pages ≤ k → MarkedSoFar old new pages bit k
    → MarksPages old new pages bit
all_pages old new pages bit k all so_far = record {
  count = so_far.count;
  each = λ page. found (λ q. q < length old → is_page_marked new q bit ≡ true) pages page
      (λ j q below. so_far.each j q (omega arith));
  stay = so_far.stay;
}
