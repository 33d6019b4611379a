-- What happens at one element when iterations run one after another, where each is known by its actions on the start
-- word.
use Rattle.std.proofs.Common.{◌≡◌, ℕ, Bool, true, false, ◌&&◌, ◌||◌, ◌⊎◌, inl, inr, List, [], ◌∷◌, ◌++◌, Option, Some}
use Rattle.std.{proofs.Common.{None, refl, sym, ◌∙◌, ap, subst}, specs.Prelude.{if◌then◌else◌, is_none}}
use Rattle.std.specs.{Option.{option_or, option_map, unwrap_or}, List.{list_any, list_all, fold}}
use Rattle.std.proofs.lemmas.{Bool.{and_parts, or_parts, or_from}, List.Folds.{list_all-append}}
use Rattle.array_maps.specs.declared.access.Op.{Op, TheVariants.{Add, Or, And, Xor, AddH}}
use Rattle.array_maps.specs.Accesses.{Action, Read, Write, Reduce, combined, left_by, left_by_all, SawEach}
use Rattle.loop_core_model.specs.Actions.{writes, exposed, is_same, reduces_by, joined, only_operator, operands}
use Rattle.loop_core_model.specs.{Conflict.{fails_lrpd, fails_flow}, Committed.{last_that, committed_by, committed}}

-- both sides of a test that is false, or true
pub or_false_left : (a b : Bool) → (a || b) ≡ false → a ≡ false
or_false_left false b h = refl
or_false_left true b h = h

pub or_false_right : (a b : Bool) → (a || b) ≡ false → b ≡ false
or_false_right false b h = h
or_false_right true b h = absurd (cc)

pub and_true_left : (a b : Bool) → (a && b) ≡ true → a ≡ true
and_true_left true b h = refl
and_true_left false b h = h

pub and_true_right : (a b : Bool) → (a && b) ≡ true → b ≡ true
and_true_right true b h = h
and_true_right false b h = absurd (cc)

pub and_false : (b c d : Bool) → (c ≡ false → d ≡ false) → (b && c) ≡ false → (b && d) ≡ false
and_false true c d f h = f h
and_false false c d f h = refl

-- where the iteration doesn't look at the word first, it sees the same whatever stood there
pub sealed_saw : (actions : List Action) (word other : ℕ) → exposed actions ≡ false → SawEach actions word
    → SawEach actions other
sealed_saw [] word other h saw = tt
sealed_saw (Write w ∷ actions) word other h saw = saw
sealed_saw (_ ∷ actions) word other h saw = absurd (cc)

-- and what it leaves doesn't depend on it either, if it writes
pub sealed_left : (actions : List Action) (word other : ℕ) → exposed actions ≡ false → writes actions ≡ true
    → left_by_all actions word ≡ left_by_all actions other
sealed_left (Write x ∷ actions) word other h w = refl
sealed_left _ word other h w = absurd (cc)

-- what isn't written stays
pub unwritten_left : (actions : List Action) (word : ℕ) → writes actions ≡ false → left_by_all actions word ≡ word
unwritten_left [] word h = refl
unwritten_left (Read x ∷ actions) word h = unwritten_left actions word h
unwritten_left (_ ∷ actions) word h = absurd (cc)

-- reduces see nothing
pub reduces_saw : (op : Op) (actions : List Action) (word : ℕ) → list_all (reduces_by op) actions ≡ true
    → SawEach actions word
reduces_saw op [] word h = tt
reduces_saw op (Reduce other v ∷ actions) word h =
    (tt, reduces_saw op actions _ (and_true_right (is_same op other) _ h))
reduces_saw op (_ ∷ actions) word h = absurd (cc)

pub same_op : (a b : Op) → is_same a b ≡ true → a ≡ b
same_op Add Add h = refl
same_op Or Or h = refl
same_op And And h = refl
same_op Xor Xor h = refl
same_op AddH AddH h = refl
same_op _ _ h = absurd (cc)

-- reduces by one operator leave the word combined with their operands
pub reduces_left : (op : Op) (actions : List Action) (word : ℕ) → list_all (reduces_by op) actions ≡ true →
    left_by_all actions word ≡ fold (combined op) word (operands actions)
reduces_left op [] word h = refl
reduces_left op (Reduce other v ∷ actions) word h =
    let same : op ≡ other = same_op op other (and_true_left (is_same op other) _ h) in
    subst (λ (o : Op). left_by_all actions (combined o word v) ≡ fold (combined op) (combined op word v)
    (operands actions)) same
    (reduces_left op actions (combined op word v) (and_true_right (is_same op other) _ h))
reduces_left op (_ ∷ actions) word h = absurd (cc)

-- the word is still the start word, or nobody to come looks at it first
abbrev pub Calm : (start word : ℕ) → List (List Action) → Type 0
Calm start word iterations = (word ≡ start) ⊎ (list_any exposed iterations ≡ false)

-- what is known of an element before the iterations to come
abbrev pub Holds : (start word : ℕ) → List (List Action) → Type 0
Holds start word iterations =
    ((op : Op) × (list_all (reduces_by op) (joined iterations) ≡ true)) ⊎ ((fails_flow iterations ≡ false)
    × Calm start word iterations)

-- all of a joined list passes: its first part and its rest
pub all_parts : (p : Action → Bool) (xs ys : List Action) → list_all p (xs ++ ys) ≡ true
    → (list_all p xs ≡ true) × (list_all p ys ≡ true)
all_parts p xs ys h = and_parts (list_all p xs) (list_all p ys) (sym (list_all-append p xs ys) ∙ h)

-- the next iteration sees on the word in order what it saw on the start word
pub holds_saw : (start word : ℕ) (first : List Action) (rest : List (List Action)) → SawEach first start
    → Holds start word (first ∷ rest) → SawEach first word
holds_saw start word first rest saw (inl reduced) =
    reduces_saw reduced.0 first word (all_parts (reduces_by reduced.0) first (joined rest) reduced.1).0
holds_saw start word first rest saw (inr (unharmed, inl same)) = rw same saw
holds_saw start word first rest saw (inr (unharmed, inr none)) =
    sealed_saw first start word (or_false_left (exposed first) _ none) saw

calm_next : (start word : ℕ) (first : List Action) (rest : List (List Action)) (writing : Bool) → writes first ≡ writing
    →
    (writing && list_any exposed rest) ≡ false → Calm start word (first ∷ rest) → Calm start (left_by_all first word)
    rest
calm_next start word first rest true w unharmed calm = inr unharmed
calm_next start word first rest false w unharmed (inl same) = inl (unwritten_left first word w ∙ same)
calm_next start word first rest false w unharmed (inr none) = inr (or_false_right (exposed first) _ none)

-- and then the same is known of the iterations after it
pub holds_next : (start word : ℕ) (first : List Action) (rest : List (List Action)) → Holds start word (first ∷ rest)
    → Holds start (left_by_all first word) rest
holds_next start word first rest (inl reduced) =
    inl (reduced.0, (all_parts (reduces_by reduced.0) first (joined rest) reduced.1).1)
holds_next start word first rest (inr calm) =
    let parts = or_parts (writes first && list_any exposed rest) _ calm.0 in
    inr (
      parts.1,
      calm_next start word first rest (writes first) refl parts.0 calm.1,
    )

pub left_by_all-append : (xs ys : List Action) (word : ℕ) → left_by_all (xs ++ ys) word ≡ left_by_all ys
    (left_by_all xs word)
left_by_all-append [] ys word = refl
left_by_all-append (x ∷ xs) ys word = left_by_all-append xs ys (left_by x word)

-- what is there in the end: what the last one that writes left of the start word, or the word from before
abbrev pub picked : Option (List Action) → (start word : ℕ) → ℕ
picked None start word = word
picked (Some actions) start word = left_by_all actions start

first_left : (start word : ℕ) (first : List Action) (rest : List (List Action)) (writing : Bool)
    → writes first ≡ writing → Calm start word (first ∷ rest) →
    left_by_all first word ≡ picked (if writing then Some first else None) start word
first_left start word first rest false w calm = unwritten_left first word w
first_left start word first rest true w (inl same) = ap (left_by_all first) same
first_left start word first rest true w (inr none) = sealed_left first word start (or_false_left (exposed first) _ none)
    w

picked-option_or : (later earlier : Option (List Action)) (start word left : ℕ) → left ≡ picked earlier start word →
    picked later start left ≡ picked (option_or later earlier) start word
picked-option_or None earlier start word left h = h
picked-option_or (Some actions) earlier start word left h = refl

pub last_left : (start word : ℕ) (iterations : List (List Action)) → fails_flow iterations ≡ false
    → Calm start word iterations →
    left_by_all (joined iterations) word ≡ picked (last_that writes iterations) start word
last_left start word [] unharmed calm = refl
last_left start word (first ∷ rest) unharmed calm =
    let parts = or_parts (writes first && list_any exposed rest) _ unharmed in
    left_by_all-append first (joined rest) word
    ∙ last_left start (left_by_all first word) rest parts.1 (calm_next start word first rest (writes first) refl parts.0
    calm)
    ∙ picked-option_or (last_that writes rest) (if writes first then Some first else None) start word
    (left_by_all first word) (first_left start word first rest (writes first) refl calm)

picked_at_start : (o : Option (List Action)) (start : ℕ)
    → picked o start start ≡ unwrap_or (option_map (λ actions. left_by_all actions start) o) start
picked_at_start None start = refl
picked_at_start (Some actions) start = refl

pub is_same-refl : (op : Op) → is_same op op ≡ true
is_same-refl Add = refl
is_same-refl Or = refl
is_same-refl And = refl
is_same-refl Xor = refl
is_same-refl AddH = refl

chosen : (b : Bool) (a op : Op) → (if b then Some a else None) ≡ Some op → (b ≡ true) × (a ≡ op)
chosen true a op h = (refl, cc)
chosen false a op h = absurd (cc)

-- all actions of a reduction-only element are reduces by its operator
pub only_reduces : (op : Op) (actions : List Action) → only_operator actions ≡ Some op
    → list_all (reduces_by op) actions ≡ true
only_reduces op (Reduce other v ∷ actions) h =
    let parts = chosen (list_all (reduces_by other) actions) other op h in
    subst (λ (o : Op). (is_same o other && list_all (reduces_by o) actions) ≡ true) parts.1 (rw is_same-refl parts.0)
only_reduces op _ h = absurd (cc)

-- no writer comes before a reader, unless the element is reduction-only
abbrev pub Unharmed : List (List Action) → Type 0
Unharmed iterations = (is_none (only_operator (joined iterations)) && fails_flow iterations) ≡ false

holds_by : (start : ℕ) (iterations : List (List Action)) (o : Option Op) → only_operator (joined iterations) ≡ o
    → (is_none o && fails_flow iterations) ≡ false → Holds start start iterations
holds_by start iterations None same unharmed = inr (unharmed, inl refl)
holds_by start iterations (Some op) same unharmed = inl (op, only_reduces op (joined iterations) same)

-- so much is known at the start
pub holds_at_start : (start : ℕ) (iterations : List (List Action)) → Unharmed iterations → Holds start start iterations
holds_at_start start iterations unharmed = holds_by start iterations (only_operator (joined iterations)) refl unharmed

committed_with : (start : ℕ) (iterations : List (List Action)) (o : Option Op) → only_operator (joined iterations) ≡ o
    → (is_none o && fails_flow iterations) ≡ false →
    left_by_all (joined iterations) start ≡ committed_by o iterations start
committed_with start iterations None same unharmed = last_left start start iterations unharmed (inl refl)
    ∙ picked_at_start (last_that writes iterations) start
committed_with start iterations (Some op) same unharmed =
    reduces_left op (joined iterations) start (only_reduces op (joined iterations) same)

-- all actions in order leave what is committed
pub left-committed : (start : ℕ) (iterations : List (List Action)) → Unharmed iterations
    → left_by_all (joined iterations) start ≡ committed iterations start
left-committed start iterations unharmed = committed_with start iterations (only_operator (joined iterations)) refl
    unharmed

-- where no pair fails the LRPD test, none fails the flow test
pub fails_flow-fails_lrpd : (iterations : List (List Action)) → fails_lrpd iterations ≡ false
    → fails_flow iterations ≡ false
fails_flow-fails_lrpd [] h = refl
fails_flow-fails_lrpd (first ∷ rest) h =
    let parts = or_parts (writes first && list_any exposed rest) _ h in
    or_from _ _ parts.0 (fails_flow-fails_lrpd rest (or_parts (exposed first && list_any writes rest) _ parts.1).1)
