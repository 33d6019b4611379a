-- The counted iterations are the scan of all.
use Rattle.std.proofs.Common.{◌≡◌, ℕ, zero, suc, ◌+◌, Bool, map, refl, sym, ◌∙◌}
use Rattle.std.{proofs.Common.{ap, arith}, specs.{Prelude.{if◌then◌else◌, ◌==◌}, List.{range_with_len}}}
use Rattle.std.proofs.{Common.{inl, inr}, lemmas.Bool.{cases_Bool}}
use Rattle.bpf_step_model.specs.Run.{BoundedResult, Ended, Stuck, Unfinished, followed}
use Rattle.bpf_step_model.specs.Iteration.{Iterated, iteration}
use Rattle.loop_core_model.specs.LeastBreak.{is_break, least_below, count_to, in_front_of, all_ended}
use Rattle.loop_core_model.specs.Scan.{up_to_break, scan, CountedAreScanned}
use Rattle.loop_core_model.proofs.{Least.{least_is}, Steps.{first_break}, FirstBreak.{first_is, one_first}}

-- so many of n indices from this one on are up to the first that breaks
abbrev pub scanned : (ℕ → Bool) → (left index : ℕ) → ℕ
scanned breaks zero index = 0
scanned breaks (suc left) index = suc (if breaks index then 0 else scanned breaks left (index + 1))

counts_scanned : (breaks : ℕ → Bool) (left index n : ℕ) → index + left ≡ n
    → count_to n (first_break breaks left index) ≡ index + scanned breaks left index
counts_scanned breaks zero index n all = sym all
counts_scanned breaks (suc left) index n all = elim (cases_Bool (breaks index)) [
  | inl here ↦ rw here (omega arith)
  | inr on ↦ rw on (counts_scanned breaks left (index + 1) n (omega arith) ∙ omega arith)
]

module _ (iterate : ℕ → BoundedResult Iterated) where
  abbrev breaks_at : ℕ → Bool
  breaks_at index = is_break (iterate index)

  -- they end as the scan does
  one_scanned : (left index more : ℕ) (e : BoundedResult Iterated)
      → all_ended (map iterate (range_with_len (index + 1) more)) ≡ scan iterate left (index + 1)
      → followed (in_front_of (all_ended (map iterate (range_with_len (index + 1) (if is_break e then 0 else more))))) e
      ≡ followed (up_to_break (scan iterate left (index + 1))) e
  one_scanned left index more Stuck rest = refl
  one_scanned left index more Unfinished rest = refl
  one_scanned left index more (Ended it) rest = elim (cases_Bool (it.ret == 1)) [
    | inl one ↦ rw one refl
    | inr on ↦ rw (on, rest) refl
  ]

  scan_is : (left index : ℕ)
      → all_ended (map iterate (range_with_len index (scanned breaks_at left index))) ≡ scan iterate left index
  scan_is zero index = refl
  scan_is (suc left) index = one_scanned left index (scanned breaks_at left (index + 1)) (iterate index)
      (scan_is left (index + 1))

  counted_scan : (n : ℕ) → all_ended (map iterate (range_with_len 0 (count_to n (least_below breaks_at n))))
      ≡ scan iterate n 0
  counted_scan n =
      let all : 0 + n ≡ n = omega arith in
      let same = one_first breaks_at n (first_break breaks_at n 0) (least_below breaks_at n)
      (first_is breaks_at n 0 n all) (least_is breaks_at n) in
      let count : count_to n (least_below breaks_at n) ≡ scanned breaks_at n 0 =
      ap (count_to n) (sym same) ∙ counts_scanned breaks_at n 0 n all ∙ omega arith in
      rw count (scan_is n 0)

pub counted_are_scanned : CountedAreScanned
counted_are_scanned program bound call words = counted_scan (λ index. iteration program bound call index words) call.n
