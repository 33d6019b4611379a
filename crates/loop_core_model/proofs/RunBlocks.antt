-- Blocks of a split that were run, and their numbers.
use Rattle.std.proofs.Common.{◌≡◌, ℕ, zero, suc, ◌+◌, ◌-◌, ◌<◌, ◌≤◌, Bool, true, false, ◌⊎◌, inl, inr, List, [], ◌∷◌}
use Rattle.std.proofs.Common.{Option, refl, sym, ◌∙◌, ap, subst, arith}
use Rattle.std.specs.Prelude.{not, ◌&&◌, ◌==◌, map, length, is_none, slice_get, slice_index}
use Rattle.std.specs.List.{list_any, AllByRecursion}
use Rattle.std.proofs.lemmas.Bool.{eqb-true, eq-eqb, cases_Bool, and_parts, and_left, and_right, not_from_true, or_from}
use Rattle.bpf_step_model.specs.{Run.{BoundedResult, Ended}, Iteration.{Iterated}}
use Rattle.loop_core_model.specs.{LeastBreak.{is_break, lesser}, Scan.{scan}}
use Rattle.loop_core_model.specs.{Block.{break_from}, Gather.{is_bound, stands_in}}
use Rattle.loop_core_model.specs.Gather.{Block, starts_late, block_numbered, least_of, lacks_block, lacks_some, twice}
use Rattle.loop_core_model.{specs.Intervals.{blocks_of, start_of, end_of}, proofs.BlockLaws.{of_scan}}
use Rattle.loop_core_model.proofs.Steps.{bit, times, first_break, break_of, least_break_of}

-- the numbers of blocks
abbrev pub numbers : List Block → List ℕ
numbers blocks = map (λ (b : Block). b.number) blocks

none_times : (k : ℕ) (blocks : List Block) → times k (numbers blocks) ≡ 0
    → list_any (λ (other : Block). other.number == k) blocks ≡ false
none_times k [] h = refl
none_times k (b ∷ blocks) h = elim (cases_Bool (b.number == k)) [
  | inl here ↦ absurd (let one : bit (b.number == k) ≡ 1 = ap bit here in omega arith)
  | inr other ↦ or_from (b.number == k) (list_any (λ (other : Block). other.number == k) blocks) other
      (none_times k blocks (let none : bit (b.number == k) ≡ 0 = ap bit other in omega arith))
]

pub some_times : (k : ℕ) (blocks : List Block) → 0 < times k (numbers blocks) → is_none (block_numbered k blocks)
    ≡ false
some_times k [] h = absurd (omega arith)
some_times k (b ∷ blocks) h = elim (cases_Bool (b.number == k)) [
  | inl here ↦ rw here refl
  | inr other ↦ rw other (some_times k blocks (let none : bit (b.number == k) ≡ 0 = ap bit other in omega arith))
]

-- no number appears twice
pub once_each : (blocks : List Block) → ((k : ℕ) → times k (numbers blocks) ≤ 1) → twice blocks ≡ false
once_each [] each = refl
once_each (b ∷ blocks) each =
    let here : bit (b.number == b.number) ≡ 1 = ap bit (eq-eqb b.number b.number refl) in
    let most = each b.number in
    or_from (list_any (λ (other : Block). other.number == b.number) blocks) (twice blocks)
    (none_times b.number blocks (omega arith))
    (once_each blocks (λ k. (let all = each k in omega arith)))

-- none is of another split
pub none_foreign : (bounds : List ℕ) (blocks : List Block) → AllByRecursion (λ b. stands_in bounds b ≡ true) blocks
    → list_any (λ (b : Block). not (stands_in bounds b)) blocks ≡ false
none_foreign bounds [] stand = refl
none_foreign bounds (b ∷ blocks) stand =
    or_from (not (stands_in bounds b)) (list_any (λ (c : Block). not (stands_in bounds c)) blocks)
    (not_from_true (stands_in bounds b) stand.0) (none_foreign bounds blocks stand.1)

-- none is missing that doesn't start past the least break
none_lacks_from : (least : Option ℕ) (blocks : List Block) (number first : ℕ) (bounds : List ℕ) →
    ((j : ℕ) → j < length bounds → (is_none (block_numbered (number + j) blocks) ≡ false)
    ⊎ (starts_late least (slice_index (first ∷ bounds) j) ≡ true)) →
    lacks_block least blocks number first bounds ≡ false
none_lacks_from least blocks number first [] each = refl
none_lacks_from least blocks number first (past ∷ bounds) each =
    or_from (not (starts_late least first) && is_none (block_numbered number blocks))
    (lacks_block least blocks (number + 1) past bounds) (elim (each 0 (omega arith)) [
      | inl there ↦
          let same : number + 0 ≡ number = omega arith in
          and_right (not (starts_late least first)) _ (rw same at there)
      | inr late ↦ and_left (not (starts_late least first)) _ (not_from_true (starts_late least first) late)
    ])
    (none_lacks_from least blocks (number + 1) past bounds (λ j h.
    (let same : number + suc j ≡ number + 1 + j = omega arith in rw same at (each (suc j) (omega arith)))))

pub none_lacks : (bounds : List ℕ) (blocks : List Block) →
    ((k : ℕ) → k < blocks_of bounds → (is_none (block_numbered k blocks) ≡ false) ⊎ (starts_late (least_of blocks)
    (start_of bounds k) ≡ true)) → lacks_some bounds blocks ≡ false
none_lacks [] blocks each = refl
none_lacks (first ∷ bounds) blocks each =
    none_lacks_from (least_of blocks) blocks 0 first bounds (λ j h.
    (let same : j ≡ 0 + j = omega arith in
    subst (λ (k : ℕ). (is_none (block_numbered k blocks) ≡ false) ⊎ (starts_late (least_of blocks)
    (slice_index (first ∷ bounds) j) ≡ true)) same (each j (omega arith))))

-- a bound that is there
bound_is : (bounds : List ℕ) (k x : ℕ) → is_bound (slice_get bounds k) x ≡ true → slice_index bounds k ≡ x
bound_is [] k x h = absurd (cc)
bound_is (bound ∷ bounds) zero x h = eqb-true bound x h
bound_is (bound ∷ bounds) (suc k) x h = bound_is bounds k x h

module _ (iterate : ℕ → BoundedResult Iterated) where
  abbrev breaking : ℕ → Bool
  breaking index = is_break (iterate index)

  -- a scan that ended broke at the first index that breaks
  pub scan_break : (left index : ℕ) (ran : List Iterated) → scan iterate left index ≡ Ended ran
      → break_from index ran ≡ first_break breaking left index
  scan_break = of_scan iterate (λ left index ran. break_from index ran ≡ first_break breaking left index)
      (λ index. refl)
      (λ left index it same one. rw (same, one) refl)
      (λ left index it its same on rest. rw (same, on) rest)

  -- so the least break of blocks that were run is known from their numbers
  break_is : (bounds : List ℕ) (b : Block) → stands_in bounds b ≡ true → scan iterate (b.past - b.first) b.first
      ≡ Ended b.ran → break_from b.first b.ran ≡ break_of breaking bounds b.number
  break_is bounds b stand run =
      let parts = and_parts (is_bound (slice_get bounds b.number) b.first) (is_bound (slice_get bounds (b.number + 1))
      b.past) stand in
      let starts : start_of bounds b.number ≡ b.first = bound_is bounds b.number b.first parts.0 in
      let ends : end_of bounds b.number ≡ b.past = bound_is bounds (b.number + 1) b.past parts.1 in
      scan_break (b.past - b.first) b.first b.ran run
      ∙ (ap (λ (past : ℕ). first_break breaking (past - b.first) b.first) (sym ends)
      ∙ ap (λ (first : ℕ). first_break breaking (end_of bounds b.number - first) first) (sym starts))

  pub least_is_least : (bounds : List ℕ) (blocks : List Block) → AllByRecursion (λ b. stands_in bounds b ≡ true) blocks
      →
      AllByRecursion (λ (b : Block). scan iterate (b.past - b.first) b.first ≡ Ended b.ran) blocks
      → least_of blocks ≡ least_break_of breaking bounds (numbers blocks)
  least_is_least bounds [] stand run = refl
  least_is_least bounds (b ∷ blocks) stand run =
      ap (λ (o : Option ℕ). lesser o (least_of blocks)) (break_is bounds b stand.0 run.0)
      ∙ ap (lesser (break_of breaking bounds b.number)) (least_is_least bounds blocks stand.1 run.1)
