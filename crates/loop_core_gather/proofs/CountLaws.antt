-- The blocks that were run say which fault they have, and which of them count.
use Rattle.std.proofs.Common.{◌≡◌, ℕ, suc, ◌+◌, Bool, true, false, List, [], ◌∷◌, map, inl, inr, Some, None, Option}
use Rattle.std.{proofs.{Common.{refl, sym, ◌∙◌, ap, arith}, lemmas.Bool.{cases_Bool}}, specs.Option.{option_map}}
use Rattle.std.specs.Prelude.{slice_get, ◌==◌, ◌||◌, not, is_some, is_none, if◌then◌else◌}
use Rattle.std.specs.List.{AllByRecursion, list_any, position_from}
use Rattle.bpf_insn_types.specs.Program.{Program}
use Rattle.bpf_step_model.specs.State.{LoopCall}
use Rattle.loop_core_model.specs.{declared.loop_test.Test.{Test}}
use Rattle.loop_core_model.specs.Gather.{Block, least_of, starts_late, block_numbered, lacks_block, lacks_some}
use Rattle.loop_core_model.specs.Gather.{in_front, counting, twice, stands_in, gather_fault}
use Rattle.loop_core_block.specs.{Blocks.{BlockOf}, Ran.{as_gathered, RecordsRun}}
use Rattle.loop_core_gather.specs.{Counting.{least_broke, place_of, has_twins, with_place, order_from}}
use Rattle.loop_core_gather.specs.{Counting.{order_of, blocks_fault, Counts}, Gathered.{all_gathered}}

-- the blocks of a split that count, in order
abbrev pub counting_of : List ℕ → List Block → List Block
counting_of [] blocks = []
counting_of (first ∷ bounds) blocks = counting (least_of blocks) blocks 0 first bounds

-- blocks have no fault, this is their least break, and those that count stand at these places, in order
pub record BlocksCount (bounds : List ℕ) (blocks : List Block) (least : Option ℕ) (places : List ℕ) : Type 0 where
  pub faultless : gather_fault bounds blocks ≡ None
  pub least_is : least ≡ least_of blocks
  pub in_order : map (slice_get blocks) places ≡ map Some (counting_of bounds blocks)

pub any_map : {A B : Type 0} (f : A → B) (test : B → Bool) (xs : List A) → list_any test (map f xs)
    ≡ list_any (λ x. test (f x)) xs
any_map f test [] = refl
any_map f test (x ∷ xs) = ap (λ (rest : Bool). test (f x) || rest) (any_map f test xs)

-- one of a list has a place where one passes
any_placed : {A : Type 0} (test : A → Bool) (at : ℕ) (xs : List A) → is_some (position_from test at xs)
    ≡ list_any test xs
any_placed test at [] = refl
any_placed test at (x ∷ xs) = elim (cases_Bool (test x)) [
  | inl here ↦ rw here refl
  | inr other ↦ rw other (any_placed test (at + 1) xs)
]

-- a block that is there goes in front of those that are
in_place : (at : ℕ → Option Block) (place : Option ℕ) (later : Option (List ℕ)) (b : Option Block) (lacks : Bool)
    (rest : List Block) → option_map at place ≡ option_map Some b
    → option_map (map at) later ≡ (if lacks then None else Some (map Some rest))
    → option_map (map at) (with_place place later)
    ≡ (if is_none b || lacks then None else Some (map Some (in_front b rest)))
in_place at None later None lacks rest here there = refl
in_place at (Some place) None (Some b) true rest here there = refl
in_place at (Some place) (Some places) (Some b) false rest here there = cc
in_place at place later b lacks rest here there = absurd (cc)

module _ (program : Program) (call : LoopCall) (words : List ℕ) where
  -- blocks as they are gathered
  abbrev all : List BlockOf → List Block
  all blocks = all_gathered program call words blocks

  least_same : (test : Test) (blocks : List BlockOf) → AllByRecursion (RecordsRun test program call words) blocks
      → least_broke blocks ≡ least_of (all blocks)
  least_same test [] ran = refl
  least_same test (b ∷ blocks) ran =
      let is = ran.0 in rw (is.ended, is.broke, least_same test blocks ran.1) refl

  twice_same : (blocks : List BlockOf) → has_twins blocks ≡ twice (all blocks)
  twice_same [] = refl
  twice_same (b ∷ blocks) = rw (
    any_placed (λ (other : BlockOf). other.number == b.number) 0 blocks,
    any_map (as_gathered program call words) (λ (other : Block). other.number == b.number) blocks,
    twice_same blocks,
  ) refl

  -- a number is found where its block is
  found : (at : ℕ → Option Block) (number start : ℕ) (blocks : List BlockOf)
      → ((k : ℕ) → at (start + k) ≡ slice_get (all blocks) k)
      → option_map at (position_from (λ (b : BlockOf). b.number == number) start blocks)
      ≡ option_map Some (block_numbered number (all blocks))
  found at number start [] there = refl
  found at number start (b ∷ blocks) there = elim (cases_Bool (b.number == number)) [
    | inl here ↦ let first : start + 0 ≡ start = omega arith in rw here (ap Some (rw first at (there 0)))
    | inr other ↦ rw other (found at number (start + 1) blocks (λ k.
        (let next : start + suc k ≡ start + 1 + k = omega arith in rw next at (there (suc k)))))
  ]

  -- the order of their places is that of the blocks that count, unless one of them isn't there
  order_is : (least : Option ℕ) (blocks : List BlockOf) (number first : ℕ) (bounds : List ℕ)
      → option_map (map (slice_get (all blocks))) (order_from least blocks number first bounds)
      ≡ (if lacks_block least (all blocks) number first bounds then None
      else Some (map Some (counting least (all blocks) number first bounds)))
  order_is least blocks number first [] = refl
  order_is least blocks number first (past ∷ bounds) = elim (cases_Bool (starts_late least first)) [
    | inl late ↦ rw late (order_is least blocks (number + 1) past bounds)
    | inr on_time ↦ rw on_time (in_place (slice_get (all blocks)) (place_of blocks number)
        (order_from least blocks (number + 1) past bounds) (block_numbered number (all blocks)) _ _
        (found (slice_get (all blocks)) number 0 blocks
        (λ k. (let same : 0 + k ≡ k = omega arith in ap (slice_get (all blocks)) same)))
        (order_is least blocks (number + 1) past bounds))
  ]

  module _ (test : Test) (bounds : List ℕ) (blocks : List BlockOf)
      (ran : AllByRecursion (RecordsRun test program call words) blocks) where
    places_are : (bs : List ℕ) → option_map (map (slice_get (all blocks))) (order_of (least_broke blocks) blocks bs)
        ≡ (if lacks_some bs (all blocks) then None else Some (map Some (counting_of bs (all blocks))))
    places_are [] = refl
    places_are (first ∷ rest) = rw (least_same test blocks ran) (order_is (least_of (all blocks)) blocks 0 first rest)

    lacks_same : (o : Option (List ℕ)) (lacks : Bool) (them : List (Option Block))
        → option_map (map (slice_get (all blocks))) o ≡ (if lacks then None else Some them) → is_none o ≡ lacks
    lacks_same None true them is = refl
    lacks_same (Some places) false them is = refl
    lacks_same o lacks them is = absurd (cc)

    -- their fault is the fault of the blocks as they are gathered
    pub same_fault : blocks_fault bounds blocks ≡ gather_fault bounds (all blocks)
    same_fault =
        let lacks : is_none (order_of (least_broke blocks) blocks bounds) ≡ lacks_some bounds (all blocks) =
        lacks_same (order_of (least_broke blocks) blocks bounds) (lacks_some bounds (all blocks)) _
        (places_are bounds) in
        rw (
          lacks,
          twice_same blocks,
          any_map (as_gathered program call words) (λ (b : Block). not (stands_in bounds b)) blocks,
        ) refl

    order_by : (places : List ℕ) (lacks : Bool) (them : List (Option Block))
        → Some (map (slice_get (all blocks)) places) ≡ (if lacks then None else Some them)
        → map (slice_get (all blocks)) places ≡ them
    order_by places true them is = absurd (cc)
    order_by places false them is = cc

    -- and which of them count
    pub all_count : (least : Option ℕ) (places : List ℕ) → Counts bounds blocks least places
        → BlocksCount bounds (all blocks) least places
    all_count least places counted = record {
      faultless = sym same_fault ∙ counted.faultless;
      least_is = counted.least_is ∙ least_same test blocks ran;
      in_order = order_by places (lacks_some bounds (all blocks)) _
          (rw (rw counted.least_is at counted.in_order) at (places_are bounds));
    }
