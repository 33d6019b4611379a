-- The blocks at some places, one place after another.
use Rattle.std.proofs.Common.{◌≡◌, ℕ, suc, ◌+◌, ◌<◌, ◌≤◌, Bool, arith, true, false, List, [], ◌∷◌, drop, length, map}
use Rattle.std.proofs.Common.{get_or, Option, Some, None, refl, sym, ◌∙◌, ap}
use Rattle.std.specs.Prelude.{slice_get, slice_index, ◌==◌}
use Rattle.std.specs.{Int.{bit_at}, List.{All, AllByRecursion, cons_option}, Option.{option_map, option_or, unwrap_or}}
use Rattle.std.proofs.Math.ListN.{get_or-map, drop_of_length-le}
use Rattle.std.proofs.lemmas.List.{length-map, drop_more, get_or_default, Elements.{All-nil, All-cons}}
use Rattle.std.proofs.lemmas.Option.{slice_get_within, slice_get_read, slice_get-map, get_or_from_slice_get}
use Rattle.loop_core_model.specs.{Gather.{Block}, Kept.{Kept, applied, last_of, committed_of_kept}}
use Rattle.loop_core_block.specs.{declared.block.Block.{Block as Held}, Blocks.{BlockOf}, Shown.{shown}}
use Rattle.loop_core_gather.specs.Held.{chosen, kept_at, IsUntouchedElement, MarksTouched}

-- the block at a place
shown_there : (blocks : List Held) (place : ℕ) (b : Held) → place < length blocks → b ≡ get_or blocks place b
    → slice_get (map shown blocks) place ≡ Some (shown b)
shown_there blocks place b within is =
    rw (slice_get-map, slice_get_read blocks (length blocks) place b refl within is) refl

-- and those after it
pub chosen_next : (blocks : List Held) (places : List ℕ) (i : ℕ) (b : Held) → i < length places
    → get_or places i 0 < length blocks → b ≡ get_or blocks (get_or places i 0) b
    → chosen (drop i places) (map shown blocks) ≡ shown b ∷ chosen (drop (i + 1) places) (map shown blocks)
chosen_next blocks places i b inside within is =
    rw (drop_more places i 0 inside, shown_there blocks (get_or places i 0) b within is) refl

-- what holds of all that is made of items holds of what is made of each
pub all_made : {A B : Type 0} (f : A → B) (P : B → Type 0) (xs : List A) → All P (map f xs) → All (λ x. P (f x)) xs
all_made f P xs all k d within = rw (get_or-map f xs k d) at (all k (f d) (rw length-map within))

-- so what holds of all holds of the block at a place
pub all_at : (P : BlockOf → Type 0) (blocks : List Held) (place : ℕ) (b : Held) → place < length blocks
    → b ≡ get_or blocks place b → All P (map shown blocks) → P (shown b)
all_at P blocks place b within is all = rw is (all_made shown P blocks all place b within)

pub all_there : (P : BlockOf → Type 0) (blocks : List BlockOf) (place : ℕ) (b : BlockOf) → All P blocks
    → slice_get blocks place ≡ Some b → P b
all_there P blocks place b all at =
    rw (get_or_from_slice_get blocks place b b at) at (all place b (slice_get_within blocks place b at))

-- what a block more leaves of a value
abbrev left_by : (reduced : Bool) → ℕ → Kept → ℕ
left_by reduced value k = committed_of_kept reduced (k ∷ []) value

kept_first : (reduced : Bool) (k : Kept) (later : List Kept) (value : ℕ)
    → committed_of_kept reduced (k ∷ later) value ≡ committed_of_kept reduced later (left_by reduced value k)
kept_first true k later value = refl
kept_first false k later value = go (last_of (map (λ (k : Kept). k.last_value) later))
  where
    go : (o : Option ℕ) → unwrap_or (option_or o k.last_value) value ≡ unwrap_or o (unwrap_or k.last_value value)
    go None = refl
    go (Some x) = refl

-- a block of which nothing is kept leaves the value
unchanged : (reduced : Bool) (value e : ℕ) (b : BlockOf) → IsUntouchedElement e b
    → left_by reduced value (kept_at e b) ≡ value
unchanged true value e b none = ap (applied value) none.partial
unchanged false value e b none = ap (λ (o : Option ℕ). unwrap_or o value) none.last_value

-- what blocks at places leave of a word is what those from the i-th place on leave of a value
pub record KeptSoFar (reduced : Bool) (e : ℕ) (blocks : List Held) (places : List ℕ) (word value i : ℕ) : Type 0 where
  pub left : committed_of_kept reduced (map (kept_at e) (chosen places (map shown blocks))) word
      ≡ committed_of_kept reduced (map (kept_at e) (chosen (drop i places) (map shown blocks))) value

pub kept_none : (reduced : Bool) (e : ℕ) (blocks : List Held) (places : List ℕ) (word : ℕ)
    → KeptSoFar reduced e blocks places word word 0
kept_none reduced e blocks places word = record { left = refl }

-- after one block more whose bit is set
pub kept_next : (reduced : Bool) (e : ℕ) (blocks : List Held) (places : List ℕ) (word value i : ℕ) (b : Held)
    (next : ℕ) → i < length places → get_or places i 0 < length blocks → b ≡ get_or blocks (get_or places i 0) b
    → next ≡ committed_of_kept reduced (kept_at e (shown b) ∷ []) value
    → KeptSoFar reduced e blocks places word value i → KeptSoFar reduced e blocks places word next (i + 1)
kept_next reduced e blocks places word value i b next inside within is made so_far = record {
  left = so_far.left ∙ rw (chosen_next blocks places i b inside within is, made)
      (kept_first reduced (kept_at e (shown b)) _ value);
}

read_there : (blocks : List Held) (place : ℕ) → place < length blocks → (b : Held) × (b ≡ get_or blocks place b)
read_there [] place within = absurd (omega arith)
read_there (first ∷ blocks) place within =
    (get_or (first ∷ blocks) place first, get_or_default (first ∷ blocks) place first _ within)

-- and after one whose bit isn't
pub kept_still : (reduced : Bool) (e : ℕ) (blocks : List Held) (places : List ℕ) (word value i marks : ℕ)
    → MarksTouched marks e (map shown blocks) places → i < length places → get_or places i 0 < length blocks
    → (bit_at marks i == 1) ≡ false → KeptSoFar reduced e blocks places word value i
    → KeptSoFar reduced e blocks places word value (i + 1)
kept_still reduced e blocks places word value i marks untouched inside within unset so_far =
    let at = read_there blocks (get_or places i 0) within in
    kept_next reduced e blocks places word value i at.0 value inside within at.1
    (sym (unchanged reduced value e (shown at.0)
    (untouched i (shown at.0) inside (shown_there blocks (get_or places i 0) at.0 within at.1) unset))) so_far

-- and after all of them
pub kept_all : (reduced : Bool) (e : ℕ) (blocks : List Held) (places : List ℕ) (word value i : ℕ) → length places ≤ i
    → KeptSoFar reduced e blocks places word value i
    → value ≡ committed_of_kept reduced (map (kept_at e) (chosen places (map shown blocks))) word
kept_all true e blocks places word value i past so_far = sym (rw (drop_of_length-le places past) at so_far.left)
kept_all false e blocks places word value i past so_far = sym (rw (drop_of_length-le places past) at so_far.left)

-- what holds of the block at each place holds of those blocks
pub all_chosen : (P : BlockOf → Type 0) (blocks : List BlockOf) (places : List ℕ)
    → ((i : ℕ) (b : BlockOf) → i < length places → slice_get blocks (slice_index places i) ≡ Some b → P b)
    → AllByRecursion P (chosen places blocks)
all_chosen P blocks [] each = tt
all_chosen P blocks (place ∷ places) each =
    go (slice_get blocks place) refl (all_chosen P blocks places (λ i b below. each (suc i) b (omega arith)))
  where
    go : (o : Option BlockOf) → slice_get blocks place ≡ o → AllByRecursion P (chosen places blocks)
        → AllByRecursion P (cons_option o (chosen places blocks))
    go None is rest = rest
    go (Some b) is rest = (each 0 b (omega arith) is, rest)

-- blocks of which nothing is kept leave the value
pub left_alone : (reduced : Bool) (value e : ℕ) (blocks : List BlockOf) → AllByRecursion (IsUntouchedElement e) blocks
    → committed_of_kept reduced (map (kept_at e) blocks) value ≡ value
left_alone true value e [] none = refl
left_alone false value e [] none = refl
left_alone reduced value e (b ∷ blocks) none =
    kept_first reduced (kept_at e b) (map (kept_at e) blocks) value
    ∙ rw (unchanged reduced value e b none.0) (left_alone reduced value e blocks none.1)

-- where each place has its block
pub record AreAt (f : BlockOf → Block) (blocks : List BlockOf) (places : List ℕ) (gathered : List Block) : Type 0 where
  pub within : All (λ place. place < length blocks) places
  pub same : map f (chosen places blocks) ≡ gathered

pub are_at : (f : BlockOf → Block) (blocks : List BlockOf) (places : List ℕ) (gathered : List Block)
    → map (slice_get (map f blocks)) places ≡ map Some gathered → AreAt f blocks places gathered
are_at f blocks [] [] h = record { within = All-nil (λ place. place < length blocks); same = refl }
are_at f blocks (place ∷ places) (c ∷ gathered) h =
    let here : slice_get (map f blocks) place ≡ Some c = cc in
    let later : map (slice_get (map f blocks)) places ≡ map Some gathered = cc in
    go (slice_get blocks place) refl (rw slice_get-map at here) (are_at f blocks places gathered later)
  where
    go : (o : Option BlockOf) → slice_get blocks place ≡ o → option_map f o ≡ Some c → AreAt f blocks places gathered
        → AreAt f blocks (place ∷ places) (c ∷ gathered)
    go None is same rest = absurd (cc)
    go (Some b) is same rest = record {
      within = All-cons (λ p. p < length blocks) place places (slice_get_within blocks place b is) rest.within;
      same = rw (is, rest.same) (let first : f b ≡ c = cc in ap (λ x. x ∷ gathered) first);
    }
are_at f blocks places gathered h = absurd (cc)
