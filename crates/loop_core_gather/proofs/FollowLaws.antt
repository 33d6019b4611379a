-- The blocks of a split that count follow one another: each begins where the iterations of those before it end.
use Rattle.std.proofs.Common.{◌≡◌, ℕ, suc, ◌+◌, ◌-◌, ◌≤◌, ◌<◌, true, false, not, List, [], ◌∷◌, inl, inr, length}
use Rattle.std.{proofs.Common.{Option, Some, None, refl, ap, arith}, specs.Prelude.{slice_get, is_none, nat_lt}}
use Rattle.std.{specs.List.{list_any, AllByRecursion}, proofs.lemmas.Bool.{cases_Bool, ltb-true, or_parts, lt-ltb}}
use Rattle.bpf_insn_types.specs.Program.{Program}
use Rattle.bpf_step_model.specs.{State.{LoopCall}, Run.{BoundedResult, Ended}, Iteration.{Iterated, iteration}}
use Rattle.loop_core_model.specs.{Scan.{scan}, Block.{break_from}, Split.{falls, split_fault}}
use Rattle.loop_core_model.specs.Gather.{Block, IsRunOf, least_of, starts_late, block_numbered, lacks_block, lacks_some}
use Rattle.loop_core_model.specs.Gather.{counting, twice, stands_in, gather_fault}
use Rattle.loop_core_model.proofs.{BlockLaws.{of_scan}, FirstBreak.{FirstIs, breaking, scan_first}}
use Rattle.loop_core_model.proofs.{SplitLaws.{faultless}, GatherLaws.{AtMost, Stands, rising, if_none, some_there}}
use Rattle.loop_core_model.proofs.GatherLaws.{found, none_counts}
use Rattle.loop_core_gather.proofs.CountLaws.{counting_of}

-- from an index on, each block begins where the iterations of those before it end
abbrev pub Follow : ℕ → List Block → Type 0
Follow index [] = Unit {0}
Follow index (b ∷ blocks) = (b.first ≡ index) × Follow (index + length b.ran) blocks

-- where a block starts late, none from there on counts
late_none : (o : Option ℕ) (blocks : List Block) (k first : ℕ) (bounds : List ℕ) → starts_late o first ≡ true
    → falls first bounds ≡ false → counting o blocks k first bounds ≡ []
late_none None blocks k first bounds late h = absurd (cc)
late_none (Some least) blocks k first bounds late h =
    none_counts least blocks k first bounds (ltb-true least first late) h

-- after a break every block starts late
late_behind : (o : Option ℕ) (j past : ℕ) → AtMost o (Some j) → j < past → starts_late o past ≡ true
late_behind None j past most below = absurd most
late_behind (Some i) j past most below = lt-ltb i past (omega arith)

module _ (iterate : ℕ → BoundedResult Iterated) where
  -- a scan that doesn't break runs its whole interval
  runs_all : (left index : ℕ) (ran : List Iterated) → scan iterate left index ≡ Ended ran → break_from index ran ≡ None
      → length ran ≡ left
  runs_all = of_scan iterate (λ left index ran. break_from index ran ≡ None → length ran ≡ left)
      (λ index none. refl)
      (λ left index it same one none. absurd (let broke = rw one at none in cc))
      (λ left index it its same on rest none. ap suc (rest (rw on at none)))

module _ (iterate : ℕ → BoundedResult Iterated) (whole : List ℕ) (least : Option ℕ) (blocks : List Block)
    (stand : (k : ℕ) (b : Block) → block_numbered k blocks ≡ Some b → Stands iterate whole least k b) where
  -- those after a block
  behind : (k first past : ℕ) (bounds : List ℕ) (ran : List Iterated) (o : Option ℕ) → first ≤ past
      → falls past bounds ≡ false → scan iterate (past - first) first ≡ Ended ran → break_from first ran ≡ o
      → AtMost least o → FirstIs (breaking iterate) first (first + (past - first)) o
      → Follow past (counting least blocks (k + 1) past bounds)
      → Follow (first + length ran) (counting least blocks (k + 1) past bounds)
  behind k first past bounds ran None order rises run broke most is next =
      let long = runs_all iterate (past - first) first ran run broke in
      let there : first + length ran ≡ past = omega arith in
      rw there next
  behind k first past bounds ran (Some j) order rises run broke most is next =
      let within = is.within in
      rw (late_none least blocks (k + 1) past bounds (late_behind least j past most (omega arith)) rises) tt

  follow_from : (k first : ℕ) (bounds : List ℕ) → ((j : ℕ) → slice_get whole (k + j) ≡ slice_get (first ∷ bounds) j)
      → falls first bounds ≡ false → lacks_block least blocks k first bounds ≡ false
      → Follow first (counting least blocks k first bounds)
  follow_from k first [] there rises complete = tt
  follow_from k first (past ∷ bounds) there rises complete = elim (cases_Bool (starts_late least first)) [
    | inl late ↦ rw (late_none least blocks k first (past ∷ bounds) late rises) tt
    | inr on_time ↦
        let rises_on : falls past bounds ≡ false = (or_parts (nat_lt past first) (falls past bounds) rises).1 in
        let parts = or_parts (is_none (block_numbered k blocks)) (lacks_block least blocks (k + 1) past bounds)
        (rw on_time at complete) in
        let b = some_there (block_numbered k blocks) parts.0 in
        let stands : Stands iterate whole least k b.0 = stand k b.0 b.1 in
        let here : k + 0 ≡ k = omega arith in
        let at_first : slice_get whole k ≡ Some first = rw here at (there 0) in
        let at_past : slice_get whole (k + 1) ≡ Some past = there 1 in
        let first_is : b.0.first ≡ first = (let is = stands.first_is in cc) in
        let past_is : b.0.past ≡ past = (let is = stands.past_is in cc) in
        let run = rw (first_is, past_is) at stands.run in
        rw (on_time, b.1) (
          first_is,
          behind k first past bounds b.0.ran (break_from first b.0.ran) (rising first past bounds rises) rises_on run
              refl (rw first_is at stands.least_at_most) (scan_first iterate (past - first) first b.0.ran run)
              (follow_from (k + 1) past bounds (λ j. (let next : k + suc j ≡ k + 1 + j = omega arith in
              rw next at (there (suc j)))) rises_on parts.1),
        )
  ]

-- of blocks without a fault, from index 0 on
pub counting_follow : (program : Program) (bound : ℕ) (call : LoopCall) (words : List ℕ) (bounds : List ℕ)
    (blocks : List Block) → split_fault bounds call.n ≡ None →
    gather_fault bounds blocks ≡ None → AllByRecursion (IsRunOf program bound call words) blocks
    → Follow 0 (counting_of bounds blocks)
counting_follow program bound call words [] blocks split gather runs = tt
counting_follow program bound call words (first ∷ bounds) blocks split gather runs =
    let iterate : ℕ → BoundedResult Iterated = λ index. iteration program bound call index words in
    let sound = faultless call.n (first ∷ bounds) split in
    let g1 = if_none (lacks_some (first ∷ bounds) blocks) _ _ gather in
    let g2 = if_none (twice blocks) _ _ g1.1 in
    let g3 = if_none (list_any (λ (b : Block). not (stands_in (first ∷ bounds) b)) blocks) _ _ g2.1 in
    rw sound.first (rw sound.first at (follow_from iterate (first ∷ bounds) (least_of blocks) blocks
    (found iterate (first ∷ bounds) blocks runs g3.0) 0 first bounds
    (λ j. (let place : 0 + j ≡ j = omega arith in ap (slice_get (first ∷ bounds)) place))
    (or_parts _ _ sound.rises).1 g1.0))
