-- What a worker's loop keeps.
use Rattle.std.proofs.Common.{◌≡◌, ℕ, zero, suc, ◌+◌, ◌-◌, ◌<◌, ◌≤◌, max, false, inl, inr, List, [], ◌∷◌}
use Rattle.std.proofs.Common.{◌++◌, Option, Some, None, All, map, length, refl, sym, ap, arith, append_assoc}
use Rattle.std.proofs.{Common.{append-nil, length-append}, lemmas.Bool.{cases_Bool, le-ltb}}
use Rattle.std.specs.{Prelude.{nat_lt, slice_index, Result, Ok, Err, OnErr}, Option.{option_to_list}}
use Rattle.std.{specs.List.{AllByRecursion}, proofs.lemmas.{Grind.{flat_map-append}, List.{map-append, length-map}}}
use Rattle.bpf_step_model.specs.Iteration.{iteration}
use Rattle.loop_core_model.proofs.{FirstBreak.{scan_first}, SplitLaws.{faultless, rising}}
use Rattle.loop_core_model.specs.Intervals.{blocks_of, start_of, end_of}
use Rattle.loop_board.specs.Seats.{SeatRecord, after_draw, after_look, after_post}
use Rattle.loop_core_block.specs.{Blocks.{BlockOf}, Loops.{LoopOf, IsSpeculative}, LoopBlocks.{RecordsRunOf, IsBlockOf}}
use Rattle.spec_run_workers.specs.Worked.{runs_of, worked_numbers, breaks_of, StandsIn, DidMore, WorkerStopped, Took}
use Rattle.spec_run_workers.specs.Worked.{NotRun}

-- one more than the greatest number drawn
abbrev pub above : List ℕ → ℕ
above [] = 0
above (number ∷ draws) = max (number + 1) (above draws)

above_most : (number : ℕ) (draws : List ℕ) → All (λ d. d < number) draws → above draws ≤ number
above_most number [] each = omega arith
above_most number (d ∷ draws) each =
    let here = each 0 d (omega arith) in
    let rest = above_most number draws (λ k e below. each (suc k) e (omega arith)) in
    omega arith

above_last : (number : ℕ) (draws : List ℕ) → number < above (draws ++ number ∷ [])
above_last number [] = omega arith
above_last number (d ∷ draws) = let rest = above_last number draws in omega arith

-- what holds where a result is an error
pub on_err : {A E : Type 0} (P : Type 0) (r : Result A E) → P → OnErr r P
on_err P (Ok a) h = tt
on_err P (Err e) h = h

-- what holds of each element of two lists holds of both, one after the other
pub all_append : {A : Type 0} (P : A → Type 0) (xs ys : List A) → AllByRecursion P xs → AllByRecursion P ys
    → AllByRecursion P (xs ++ ys)
all_append P [] ys all more = more
all_append P (x ∷ xs) ys all more = (all.0, all_append P xs ys all.1 more)

-- what holds of each image holds by index
pub all_images : {A B : Type 0} (P : B → Type 0) (f : A → B) (xs : List A) → AllByRecursion P (map f xs)
    → All (λ x. P (f x)) xs
all_images P f [] all k d below = absurd (omega arith)
all_images P f (x ∷ xs) all zero d below = all.0
all_images P f (x ∷ xs) all (suc k) d below = all_images P f xs all.1 k d (omega arith)

-- the runs of draws after others
runs-append : (bounds draws looks more_draws more_looks : List ℕ) → length looks ≡ length draws →
    runs_of bounds (draws ++ more_draws) (looks ++ more_looks) ≡ runs_of bounds draws looks ++ runs_of bounds more_draws
    more_looks
runs-append bounds [] [] more_draws more_looks same = refl
runs-append bounds [] (a ∷ looks) more_draws more_looks same = absurd (omega arith)
runs-append bounds (d ∷ draws) [] more_draws more_looks same = absurd (omega arith)
runs-append bounds (d ∷ draws) (a ∷ looks) more_draws more_looks same =
    let rest = runs-append bounds draws looks more_draws more_looks (omega arith) in
    elim (cases_Bool (nat_lt a (start_of bounds d))) [
      | inl late ↦ rw late rest
      | inr soon ↦ rw soon (ap (λ (ks : List ℕ). d ∷ ks) rest)
    ]

-- before a draw: what the worker did so far
pub record StillWorks (l : LoopOf) (old now : SeatRecord) (blocks : List BlockOf) : Type 0 where
  pub draws : List ℕ
  pub looks : List ℕ
  pub did : DidMore old now draws looks (breaks_of blocks)
  pub kept : now.history.found_none ≡ old.history.found_none
  pub each_look : length looks ≡ length draws
  pub numbers : worked_numbers blocks ≡ runs_of l.bounds draws looks
  pub intervals : AllByRecursion (StandsIn l.bounds) blocks
  pub ran : AllByRecursion (RecordsRunOf l) blocks

pub begins : (l : LoopOf) (seat : SeatRecord) (blocks : List BlockOf) → blocks ≡ [] → StillWorks l seat seat blocks
begins l seat blocks empty = rw empty record {
  draws = [];
  looks = [];
  did = record { board = refl; drew = sym (append-nil _); saw = sym (append-nil _); posted = sym (append-nil _) };
  kept = refl;
  each_look = refl;
  numbers = refl;
  intervals = tt;
  ran = tt;
}

-- a block is drawn, and run or skipped
module _ {l : LoopOf} {old now drawn new : SeatRecord} {blocks taken : List BlockOf} {number : ℕ}
    (still : StillWorks l old now blocks) (draws : drawn ≡ after_draw now number)
    (took : Took l.test l.program l.call l.start.words l.bounds number drawn new taken) where
  did : DidMore old new (still.draws ++ number ∷ []) (still.looks ++ took.answer ∷ []) (breaks_of (blocks ++ taken))
  did = record {
    board = rw (took.did.board, draws) still.did.board;
    drew = rw (took.did.drew, draws, still.did.drew) (simp (append-nil, append_assoc));
    saw = rw (took.did.saw, draws, still.did.saw) (simp append_assoc);
    posted = rw (
      took.did.posted,
      draws,
      still.did.posted,
      flat_map-append (λ (b : BlockOf). option_to_list b.broke)
          blocks taken,
    ) (simp append_assoc);
  }

  kept : new.history.found_none ≡ old.history.found_none
  kept = rw (took.kept, draws) still.kept

  numbers : worked_numbers (blocks ++ taken) ≡ runs_of l.bounds still.draws still.looks ++ worked_numbers taken
  numbers = rw (map-append (λ (b : BlockOf). b.number) blocks taken, still.numbers)

  -- each draw leaves less to draw
  pub fewer : (n : ℕ) → All (λ d. d < number) now.history.draws → number < n
      → n - above new.history.draws < n - above now.history.draws
  fewer n each below =
      let drew : new.history.draws ≡ now.history.draws ++ number ∷ [] = rw (took.did.drew, draws) (append-nil _) in
      let low = above_most number now.history.draws each in
      let high = above_last number now.history.draws in
      rw drew (omega arith)

  -- a want of memory to keep the block
  pub stops : 0 < length taken → WorkerStopped l.test l.program l.call l.start.words l.bounds old new
  stops some = record {
    earlier = still.draws;
    seen = still.looks;
    last = number;
    answer = took.answer;
    blocks = blocks ++ taken;
    did = did;
    each_look = still.each_look;
    on_time = on_time;
    numbers = inr (rw (numbers, took.numbers, on_time));
    intervals = all_append (StandsIn l.bounds) blocks taken still.intervals took.intervals;
    ran = all_append (RecordsRunOf l) blocks taken still.ran took.ran;
    kept = kept;
  }
    where
      on_time : nat_lt took.answer (start_of l.bounds number) ≡ false
      on_time = elim (cases_Bool (nat_lt took.answer (start_of l.bounds number))) [
        | inl late ↦ absurd (let none_there = ap length (rw late at took.numbers) in
            let each = length-map taken (λ (b : BlockOf). b.number) in omega (arith, some, none_there, each))
        | inr soon ↦ soon
      ]

  -- a block more
  pub goes_on : (all : List BlockOf) → all ≡ blocks ++ taken → StillWorks l old new all
  goes_on all is_all = rw is_all record {
    draws = still.draws ++ number ∷ [];
    looks = still.looks ++ took.answer ∷ [];
    did = did;
    kept = kept;
    each_look = rw (
      length-append still.looks (took.answer ∷ []),
      length-append still.draws (number ∷ []),
      still.each_look,
    );
    numbers = rw (numbers, took.numbers) (sym (runs-append l.bounds still.draws still.looks (number ∷ [])
        (took.answer ∷ []) still.each_look));
    intervals = all_append (StandsIn l.bounds) blocks taken still.intervals took.intervals;
    ran = all_append (RecordsRunOf l) blocks taken still.ran took.ran;
  }

-- the seat after a block broke or didn't
abbrev pub after_block : SeatRecord → Option ℕ → SeatRecord
after_block seat None = seat
after_block seat (Some index) = after_post seat index

did_block : (seat : SeatRecord) (answer : ℕ) (broke : Option ℕ)
    → DidMore seat (after_block (after_look seat answer) broke) [] (answer ∷ []) (option_to_list broke ++ [])
did_block seat answer None =
    record { board = refl; drew = sym (append-nil _); saw = refl; posted = sym (append-nil _) }
did_block seat answer (Some index) = record { board = refl; drew = sym (append-nil _); saw = refl; posted = refl }

kept_block : (seat : SeatRecord) (broke : Option ℕ) → (after_block seat broke).history.found_none
    ≡ seat.history.found_none
kept_block seat None = refl
kept_block seat (Some index) = refl

-- a block of the loop has its interval
pub in_split : {l : LoopOf} {number : ℕ} {b : BlockOf} → IsBlockOf l number b → StandsIn l.bounds b
in_split is = record {
  within = rw is.number_is is.within;
  first = rw is.number_is is.first_is;
  past = rw is.number_is is.past_is;
}

-- an answer that isn't below where a block starts
pub in_time : (view l : LoopOf) (number start answer : ℕ) → view ≡ l → start ≡ start_of view.bounds number
    → start ≤ answer → nat_lt answer (start_of l.bounds number) ≡ false
in_time view l number start answer is starts early =
    le-ltb answer (start_of l.bounds number) (let same = rw is at starts in omega arith)

-- where a block doesn't start past the answer
module _ (l : LoopOf) (number answer : ℕ) {seat looked : SeatRecord} (looks : looked ≡ after_look seat answer)
    (soon : nat_lt answer (start_of l.bounds number) ≡ false) where
  -- there is no memory to run it
  pub stops_looking : NotRun l.bounds number seat looked
  stops_looking =
      rw looks record { answer = answer; did = did_block seat answer None; kept = refl; on_time = soon }

  -- or it is run, and its break is posted
  pub runs : {new : SeatRecord} (b : BlockOf) → IsBlockOf l number b → (broke : Option ℕ) → b.broke ≡ broke
      → new ≡ after_block looked broke →
      Took l.test l.program l.call l.start.words l.bounds number seat new (b ∷ [])
  runs b is broke breaks posts = rw (posts, looks) record {
    answer = answer;
    did = rw breaks (did_block seat answer broke);
    kept = kept_block (after_look seat answer) broke;
    numbers = rw (soon, is.number_is);
    intervals = (in_split is, tt);
    ran = (is.ran, tt);
  }

-- the index at which a block broke can be posted
pub break_small : (l : LoopOf) (number : ℕ) (b : BlockOf) → IsBlockOf l number b → IsSpeculative l → (index : ℕ)
    → b.broke ≡ Some index → index ≤ 8388607
break_small l number b is speculative index broke =
    let sound = faultless l.call.n l.bounds speculative.split in
    let several = sound.several in
    let within = is.within in
    let last : end_of l.bounds number ≤ slice_index l.bounds (blocks_of l.bounds) =
    rising 0 l.bounds sound.rises (number + 1) (blocks_of l.bounds) (omega arith) (omega arith) in
    let here = rw (← is.ran.broke, broke) at (scan_first (λ i. iteration l.program 4096 l.call i l.start.words)
    (b.past - b.first) b.first is.ran.ran is.ran.ended) in
    omega (arith, here.from, here.within, last, sound.last, is.past_is, speculative.known.sound.iterations)
