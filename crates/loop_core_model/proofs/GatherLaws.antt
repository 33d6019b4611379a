-- Blocks of a split without a fault give the least break and the counted iterations.
use Rattle.std.proofs.Common.{◌≡◌, ℕ, suc, ◌+◌, ◌-◌, ◌≤◌, ◌<◌, Bool, true, false, not, ◌&&◌, ◌||◌, inl, inr}
use Rattle.std.proofs.Common.{List, [], ◌∷◌, ◌++◌, map, length, Option, Some, None, refl, sym, ◌∙◌, ap, subst, arith}
use Rattle.std.specs.Prelude.{if◌then◌else◌, ◌==◌, nat_lt, min, is_none, is_some, slice_get}
use Rattle.std.{specs.List.{list_any, AllByRecursion}, proofs.lemmas.List.{append-nil}}
use Rattle.std.proofs.lemmas.{Bool.{cases_Bool, cases_lt, eqb-true, ltb-false, le-ltb, lt-ltb, and_parts}}
use Rattle.std.proofs.lemmas.Option.{slice_get_within, get_or_from_slice_get}
use Rattle.bpf_insn_types.specs.Program.{Program}
use Rattle.bpf_step_model.specs.{State.{LoopCall}, Run.{BoundedResult, Ended, mapped, followed}}
use Rattle.bpf_step_model.specs.Iteration.{Iterated, iteration}
use Rattle.loop_core_model.specs.{Actions.{joined}, LeastBreak.{is_break, least_below, lesser}, Scan.{scan}}
use Rattle.loop_core_model.proofs.{Least.{least_is}, ScanLaws.{counted_are_scanned}, BlockLaws.{scans_follow}}
use Rattle.loop_core_model.{specs.Intervals.{blocks_of}, proofs.OneElement.{or_false_left, or_false_right}}
use Rattle.loop_core_model.proofs.SplitLaws.{Faultless, none_if, faultless, rising as no_lower}
use Rattle.loop_core_model.specs.{Block.{has_break, break_from, unless_break}, Split.{falls, last_bound, ends_amiss}}
use Rattle.loop_core_model.specs.Gather.{Block, IsRunOf, least_of, starts_late, block_numbered, lacks_block, counting}
use Rattle.loop_core_model.specs.Gather.{lacks_some, twice, is_bound, stands_in, gathered, Gathers, BlocksGather}
use Rattle.loop_core_model.proofs.FirstBreak.{NoneIn, IsFirst, FirstIs, widened, one_first, break_there, breaking}
use Rattle.loop_core_model.proofs.FirstBreak.{scan_first}

-- the least of some breaks is at most each of them
abbrev pub AtMost : Option ℕ → Option ℕ → Type 0
AtMost o None = Unit {0}
AtMost None (Some j) = ⊥
AtMost (Some i) (Some j) = i ≤ j

at_most_left : (a b : Option ℕ) → AtMost (lesser a b) a
at_most_left None b = tt
at_most_left (Some i) None = omega arith
at_most_left (Some i) (Some j) = omega arith

at_most_right : (a b c : Option ℕ) → AtMost b c → AtMost (lesser a b) c
at_most_right None b c h = h
at_most_right (Some i) b None h = tt
at_most_right (Some i) None (Some k) h = absurd h
at_most_right (Some i) (Some j) (Some k) h = omega arith

-- a break is one of the loop's
abbrev pub IsReal : (ℕ → Bool) → ℕ → Option ℕ → Type 0
IsReal test n None = Unit {0}
IsReal test n (Some i) = (test i ≡ true) × (i < n)

real_lesser : (test : ℕ → Bool) (n : ℕ) (a b : Option ℕ) → IsReal test n a → IsReal test n b
    → IsReal test n (lesser a b)
real_lesser test n None b h k = k
real_lesser test n (Some i) None h k = h
real_lesser test n (Some i) (Some j) h k = elim (cases_lt i j) [
  | inl less ↦ (let e : min i j ≡ i = omega arith in rw e h)
  | inr more ↦ (let e : min i j ≡ j = omega arith in rw e k)
]

-- bounds
pub if_none : {A : Type 0} (b : Bool) (x : A) (o : Option A) → (if b then Some x else o) ≡ None → (b ≡ false)
    × (o ≡ None)
if_none b x o h = none_if b x o h

pub not_false : (b : Bool) → not b ≡ false → b ≡ true
not_false true h = refl
not_false false h = absurd (cc)

pub rising : (before : ℕ) (bound : ℕ) (bounds : List ℕ) → falls before (bound ∷ bounds) ≡ false → before ≤ bound
rising before bound bounds h = ltb-false bound before (or_false_left (nat_lt bound before) (falls bound bounds) h)

is_bound_at : (o : Option ℕ) (x : ℕ) → is_bound o x ≡ true → o ≡ Some x
is_bound_at None x h = absurd (cc)
is_bound_at (Some bound) x h = ap Some (eqb-true bound x h)

-- the bounds of a block that is the split's
bounds_are : (whole : List ℕ) (b : Block) → not (stands_in whole b) ≡ false
    → (slice_get whole b.number ≡ Some b.first) × (slice_get whole (b.number + 1) ≡ Some b.past)
bounds_are whole b h =
    let parts = and_parts (is_bound (slice_get whole b.number) b.first) _ (not_false (stands_in whole b) h) in
    (is_bound_at _ b.first parts.0, is_bound_at _ b.past parts.1)

module _ (iterate : ℕ → BoundedResult Iterated) where
  -- what is known of a block that is there
  pub record Stands (whole : List ℕ) (least : Option ℕ) (k : ℕ) (b : Block) : Type 0 where
    pub first_is : slice_get whole k ≡ Some b.first
    pub past_is : slice_get whole (k + 1) ≡ Some b.past
    pub run : scan iterate (b.past - b.first) b.first ≡ Ended b.ran
    pub least_at_most : AtMost least (break_from b.first b.ran)

  abbrev pub IsRun : Block → Type 0
  IsRun b = scan iterate (b.past - b.first) b.first ≡ Ended b.ran

  stands_more : (whole : List ℕ) (own least : Option ℕ) (k : ℕ) (b : Block) → Stands whole least k b
      → Stands whole (lesser own least) k b
  stands_more whole own least k b h =
      record {
        first_is = h.first_is;
        past_is = h.past_is;
        run = h.run;
        least_at_most = at_most_right own least
            (break_from b.first b.ran) h.least_at_most;
      }

  -- a block that is found
  pub found : (whole : List ℕ) (blocks : List Block) → AllByRecursion IsRun blocks
      → list_any (λ (b : Block). not (stands_in whole b)) blocks ≡ false →
      (k : ℕ) (b : Block) → block_numbered k blocks ≡ Some b → Stands whole (least_of blocks) k b
  found whole [] runs there k b h = absurd (cc)
  found whole (c ∷ blocks) runs there k b h = elim (cases_Bool (c.number == k)) [
    | inl same ↦
        let here : Some c ≡ Some b = rw same at h in
        let is : c ≡ b = cc in
        let bounds = bounds_are whole c (or_false_left (not (stands_in whole c)) _ there) in
        subst (Stands whole (lesser (break_from c.first c.ran) (least_of blocks)) k) is (record {
          first_is = rw (eqb-true c.number k same) at bounds.0;
          past_is = rw (eqb-true c.number k same) at bounds.1;
          run = runs.0;
          least_at_most = at_most_left (break_from c.first c.ran) (least_of blocks);
        })
    | inr other ↦ stands_more whole (break_from c.first c.ran) (least_of blocks) k b
        (found whole blocks runs.1 (or_false_right (not (stands_in whole c)) _ there) k b (rw other at h))
  ]

  first_real : (n first past : ℕ) (o : Option ℕ) → past ≤ n
      → FirstIs (breaking iterate) first (first + (past - first)) o → IsReal (breaking iterate) n o
  first_real n first past None small h = tt
  first_real n first past (Some i) small h = (h.passes, (let a = h.from in let b = h.within in omega arith))

  -- the least break of the blocks is one of the loop's
  real_least : (n : ℕ) (whole : List ℕ) → ((k x : ℕ) → slice_get whole k ≡ Some x → x ≤ n) → (blocks : List Block)
      → AllByRecursion IsRun blocks →
      list_any (λ (b : Block). not (stands_in whole b)) blocks ≡ false → IsReal (breaking iterate) n (least_of blocks)
  real_least n whole small [] runs there = tt
  real_least n whole small (c ∷ blocks) runs there =
      let bounds = bounds_are whole c (or_false_left (not (stands_in whole c)) _ there) in
      real_lesser (breaking iterate) n (break_from c.first c.ran) (least_of blocks)
      (first_real n c.first c.past (break_from c.first c.ran) (small (c.number + 1) c.past bounds.1)
      (scan_first iterate (c.past - c.first) c.first c.ran runs.0))
      (real_least n whole small blocks runs.1 (or_false_right (not (stands_in whole c)) _ there))

-- a break of the loop isn't before a bound before which nothing breaks
not_before : (test : ℕ → Bool) (n first i : ℕ) → IsReal test n (Some i) → NoneIn test 0 first → first ≤ i
not_before test n first i real none =
    let after : i < first → ⊥ = λ h. (let off : test i ≡ false = none i (omega arith) h in let on = real.0 in cc) in
    omega arith

-- no block that comes starts late, where nothing before it breaks
not_late : (test : ℕ → Bool) (n first : ℕ) (least : Option ℕ) → IsReal test n least → NoneIn test 0 first
    → starts_late least first ≡ false
not_late test n first None real none = refl
not_late test n first (Some i) real none = le-ltb i first (not_before test n first i real none)

-- where all before the end don't break, nothing is left
nothing_left : (test : ℕ → Bool) (n : ℕ) (least : Option ℕ) → IsReal test n least → NoneIn test 0 n
    → FirstIs test n n least
nothing_left test n None real none = λ j low high. absurd (omega arith)
nothing_left test n (Some i) real none =
    absurd (let low = not_before test n n i real none in let high = real.1 in omega arith)

-- where a block broke, and nothing before it, its break is the least
broke_here : (test : ℕ → Bool) (n first past j : ℕ) (least : Option ℕ) → AtMost least (Some j) → IsReal test n least
    → NoneIn test 0 first → IsFirst test first past j → least ≡ Some j
broke_here test n first past j None at_most real none here = absurd at_most
broke_here test n first past j (Some i) at_most real none here =
    let low = not_before test n first i real none in
    let before : i < j → ⊥ = λ h. (let off : test i ≡ false = here.below i low h in let on = real.0 in cc) in
    let same : i ≡ j = omega arith in
    ap Some same

-- after the least break every block starts late
pub none_counts : (least : ℕ) (blocks : List Block) (k first : ℕ) (bounds : List ℕ) → least < first
    → falls first bounds ≡ false → counting (Some least) blocks k first bounds ≡ []
none_counts least blocks k first [] late h = refl
none_counts least blocks k first (past ∷ bounds) late h =
    let on : nat_lt least first ≡ true = lt-ltb least first late in
    let r : first ≤ past = rising first past bounds h in
    let later : least < past = omega arith in
    rw on (none_counts least blocks (k + 1) past bounds later (or_false_right (nat_lt past first) (falls past bounds)
    h))

pub some_there : (o : Option Block) → is_none o ≡ false → (b : Block) × (o ≡ Some b)
some_there None h = absurd (cc)
some_there (Some b) h = (b, refl)

-- the iterations of the blocks that count from a bound on
abbrev pub gathered_from : Option ℕ → List Block → (k first : ℕ) → List ℕ → List Iterated
gathered_from least blocks k first bounds = joined (map (λ (b : Block). b.ran) (counting least blocks k first bounds))

module _ (iterate : ℕ → BoundedResult Iterated) (whole : List ℕ) (n : ℕ) (least : Option ℕ) (blocks : List Block)
    (stand : (k : ℕ) (b : Block) → block_numbered k blocks ≡ Some b → Stands iterate whole least k b)
    (real : IsReal (breaking iterate) n least) (small : (k x : ℕ) → slice_get whole k ≡ Some x → x ≤ n) where
  -- what is claimed of the blocks from a bound on
  pub record FromBound (k first : ℕ) (bounds : List ℕ) : Type 0 where
    pub scanned : scan iterate (n - first) first ≡ Ended (gathered_from least blocks k first bounds)
    pub least_is : FirstIs (breaking iterate) first n least

  counts_more : (k first past : ℕ) (bounds : List ℕ) (b : Block) → starts_late least first ≡ false
      → block_numbered k blocks ≡ Some b
      → gathered_from least blocks k first (past ∷ bounds) ≡ b.ran ++ gathered_from least blocks (k + 1) past bounds
  counts_more k first past bounds b on_time there = rw (on_time, there) refl

  -- a block that counts, and those after it
  with_block : (k first past : ℕ) (bounds : List ℕ) (ran : List Iterated) → first ≤ past → past ≤ n
      → falls past bounds ≡ false → scan iterate (past - first) first ≡ Ended ran
      → AtMost least (break_from first ran) → NoneIn (breaking iterate) 0 first
      → gathered_from least blocks k first (past ∷ bounds) ≡ ran ++ gathered_from least blocks (k + 1) past bounds
      → (NoneIn (breaking iterate) 0 past → FromBound (k + 1) past bounds) → FromBound k first (past ∷ bounds)
  with_block k first past bounds ran order low_past rises run at_most none counts later =
      let next : first + (past - first) ≡ past = omega arith in
      let long : n - first ≡ (past - first) + (n - past) = omega arith in
      let parts : scan iterate (n - first) first ≡ followed (unless_break (scan iterate (n - past) past)) (Ended ran) =
      ap (λ m. scan iterate m first) long ∙ scans_follow iterate (past - first) (n - past) first
      ∙ rw (run, next) refl in
      go (break_from first ran) refl (rw next at (scan_first iterate (past - first) first ran run)) parts
    where
      go : (o : Option ℕ) → break_from first ran ≡ o → FirstIs (breaking iterate) first past o
          → scan iterate (n - first) first ≡ followed (unless_break (scan iterate (n - past) past)) (Ended ran)
          → FromBound k first (past ∷ bounds)
      go None is_break none_here parts =
          let rest = later (widened (breaking iterate) 0 first past None (omega arith) none none_here) in
          let on : has_break ran ≡ false = break_there first ran ∙ ap is_some is_break in
          record {
            scanned = parts ∙ (rw on (ap (mapped (λ others. ran ++ others)) rest.scanned)) ∙ ap Ended (sym counts);
            least_is = widened (breaking iterate) first past n least order none_here rest.least_is;
          }
      go (Some j) is_break here parts =
          let is_least = broke_here (breaking iterate) n first past j least (rw is_break at at_most) real none here in
          let no_more : gathered_from least blocks (k + 1) past bounds ≡ [] =
          ap (λ o. gathered_from o blocks (k + 1) past bounds) is_least
          ∙ ap (λ bs. joined (map (λ (c : Block). c.ran) bs)) (none_counts j blocks (k + 1) past bounds here.within
          rises) in
          let breaks : has_break ran ≡ true = break_there first ran ∙ ap is_some is_break in
          let inside = here.within in
          record {
            scanned = parts ∙ (rw breaks refl) ∙ ap Ended (sym (counts ∙ ap (λ rest. ran ++ rest) no_more
                ∙ append-nil ran));
            least_is = rw is_least (record {
              from = here.from;
              within = omega arith;
              passes = here.passes;
              below = here.below;
            });
          }

  -- the blocks from a bound on, where all that count are there and nothing before the bound breaks
  from_bound : (k first : ℕ) (bounds : List ℕ) → ((j : ℕ) → slice_get whole (k + j) ≡ slice_get (first ∷ bounds) j)
      → falls first bounds ≡ false → last_bound first bounds ≡ n →
      lacks_block least blocks k first bounds ≡ false → NoneIn (breaking iterate) 0 first → FromBound k first bounds
  from_bound k first [] there rises ends complete none =
      rw ends (record {
        scanned = (let none_left : n - n ≡ 0 = omega arith in ap (λ m. scan iterate m n) none_left);
        least_is = nothing_left (breaking iterate) n least real (rw ends at none);
      })
  from_bound k first (past ∷ bounds) there rises ends complete none =
      let on_time : starts_late least first ≡ false = not_late (breaking iterate) n first least real none in
      let here : (not (starts_late least first) && is_none (block_numbered k blocks)) ≡ false =
      or_false_left (not (starts_late least first) && is_none (block_numbered k blocks)) _ complete in
      let is_there : is_none (block_numbered k blocks) ≡ false =
      subst (λ (late : Bool). (not late && is_none (block_numbered k blocks)) ≡ false) on_time here in
      let b = some_there (block_numbered k blocks) is_there in
      let stands : Stands iterate whole least k b.0 = stand k b.0 b.1 in
      let same_place : k + 0 ≡ k = omega arith in
      let at_first : slice_get whole k ≡ Some first = rw same_place at (there 0) in
      let at_past : slice_get whole (k + 1) ≡ Some past = there 1 in
      let first_is : b.0.first ≡ first = (let s = stands.first_is in cc) in
      let past_is : b.0.past ≡ past = (let s = stands.past_is in cc) in
      let rises_next : falls past bounds ≡ false = or_false_right (nat_lt past first) (falls past bounds) rises in
      let next_place : (j : ℕ) → k + 1 + j ≡ k + suc j = λ j. omega arith in
      with_block k first past bounds b.0.ran (rising first past bounds rises) (small (k + 1) past at_past) rises_next
      (rw (first_is, past_is) at stands.run) (rw first_is at stands.least_at_most) none
      (counts_more k first past bounds b.0 on_time b.1)
      (from_bound (k + 1) past bounds (λ j. ap (slice_get whole) (next_place j) ∙ there (suc j)) rises_next ends
      (or_false_right (not (starts_late least first) && is_none (block_numbered k blocks)) _ complete))

-- a split without a fault begins at 0, ends at n, and never falls
split_from : (program : Program) (bound : ℕ) (call : LoopCall) (words : List ℕ) (bounds : List ℕ) (blocks : List Block)
    → Faultless call.n bounds → ends_amiss bounds call.n ≡ false → lacks_some bounds blocks ≡ false →
    list_any (λ (b : Block). not (stands_in bounds b)) blocks ≡ false
    → AllByRecursion (IsRunOf program bound call words) blocks →
    Gathers program bound call words bounds blocks
split_from program bound call words [] blocks sound ends complete there runs =
    absurd (let several = sound.several in omega arith)
split_from program bound call words (first ∷ bounds) blocks sound ends complete there runs =
    let iterate : ℕ → BoundedResult Iterated = λ index. iteration program bound call index words in
    let begins : first ≡ 0 = sound.first in
    let n_last : last_bound first bounds ≡ call.n =
    eqb-true (last_bound first bounds) call.n (not_false (last_bound first bounds == call.n)
    (or_false_right (not (first == 0)) _ ends)) in
    let small : (k x : ℕ) → slice_get (first ∷ bounds) k ≡ Some x → x ≤ call.n =
    λ k x at. (let inside = slice_get_within (first ∷ bounds) k x at in
    let up = no_lower 0 (first ∷ bounds) sound.rises k (blocks_of (first ∷ bounds)) (omega arith) (omega arith) in
    let here = get_or_from_slice_get (first ∷ bounds) k x 0 at in let last = sound.last in omega arith) in
    let same_place : (j : ℕ) → 0 + j ≡ j = λ j. omega arith in
    let result = from_bound iterate (first ∷ bounds) call.n (least_of blocks) blocks (found iterate (first ∷ bounds)
    blocks runs there) (real_least iterate call.n (first ∷ bounds) small blocks runs there) small 0 first bounds
    (λ j. ap (slice_get (first ∷ bounds)) (same_place j))
    (or_false_right (nat_lt first 0) (falls first bounds) sound.rises) n_last complete
    (λ j low high. absurd (omega arith)) in
    let from_zero : call.n - 0 ≡ call.n = omega arith in
    record {
      break = one_first (breaking iterate) call.n (least_of blocks) (least_below (breaking iterate) call.n)
          (rw begins at result.least_is) (least_is (breaking iterate) call.n);
      iterations = counted_are_scanned program bound call words
          ∙ ap (λ m. scan iterate m 0) (sym from_zero)
          ∙ subst (λ (m : ℕ). scan iterate (call.n - m) m ≡ Ended (gathered (first ∷ bounds) blocks)) begins
          result.scanned;
    }

pub blocks_gather : BlocksGather
blocks_gather program bound call words bounds blocks split gather runs =
    let s1 = if_none (falls 0 bounds) _ _ split in
    let s2 = if_none (nat_lt (length bounds) 2 || nat_lt 65 (length bounds)) _ _ s1.1 in
    let g1 = if_none (lacks_some bounds blocks) _ _ gather in
    let g2 = if_none (twice blocks) _ _ g1.1 in
    split_from program bound call words bounds blocks (faultless call.n bounds split)
    (if_none (ends_amiss bounds call.n) _ _ s2.1).0 g1.0
    (if_none (list_any (λ (b : Block). not (stands_in bounds b)) blocks) _ _ g2.1).0 runs
