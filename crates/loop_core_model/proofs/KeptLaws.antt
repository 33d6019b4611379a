-- What a pass leaves follows from what is kept of the blocks.
use Rattle.std.proofs.Common.{◌≡◌, ℕ, Bool, true, List, [], ◌∷◌, ◌++◌, map, Option, Some, None, refl, sym, ◌∙◌, ap}
use Rattle.std.{proofs.Common.{subst, append_assoc}, specs.{Prelude.{if◌then◌else◌, is_some}, List.{list_all, fold}}}
use Rattle.std.{specs.Option.{option_or, option_map, unwrap_or}, proofs.lemmas.List.Sums.{fold-append}}
use Rattle.std.proofs.lemmas.List.Elements.{filter_map-append}
use Rattle.array_maps.specs.declared.access.Op.{Op}
use Rattle.array_maps.specs.Accesses.{Action, Reduce, combined, left_by_all}
use Rattle.loop_core_model.specs.Actions.{writes, is_same, reduces_by, joined, only_operator, operand_of, operands}
use Rattle.loop_core_model.specs.{Committed.{last_that, last_value, committed_by}, Kept.{CommitsOfKept}}
use Rattle.loop_core_model.proofs.OneElement.{and_true_left, and_true_right, same_op, all_parts, only_reduces}
use Rattle.loop_core_model.specs.Kept.{partial_by, partial, Kept, kept, applied, last_of, committed_of_kept}
use Rattle.loop_core_model.proofs.OperatorLaws.{fold_at_once}

-- where all actions reduce by one operator, a block's partial does what they do
partial_applied : (op : Op) (actions : List Action) (word : ℕ) → list_all (reduces_by op) actions ≡ true →
    applied word (partial_by (only_operator actions) (operands actions)) ≡ fold (combined op) word (operands actions)
partial_applied op [] word h = refl
partial_applied op (Reduce other operand ∷ actions) word h =
    let same : op ≡ other = same_op op other (and_true_left (is_same op other) _ h) in
    let all : list_all (reduces_by op) actions ≡ true = and_true_right (is_same op other) _ h in
    subst (λ (o : Op). applied word (partial_by (if list_all (reduces_by o) actions then Some o else None) (operand
    ∷ operands actions))
    ≡ fold (combined op) (combined op word operand) (operands actions)) same
    (rw all (fold_at_once op word operand (operands actions)))
partial_applied op (_ ∷ actions) word h = absurd (cc)

pub joined-append : {A : Type 0} (xs ys : List (List A)) → joined (xs ++ ys) ≡ joined xs ++ joined ys
joined-append [] ys = refl
joined-append (x ∷ xs) ys = ap (λ rest. x ++ rest) (joined-append xs ys) ∙ sym (append_assoc x (joined xs) (joined ys))

-- reductions
all_applied : (op : Op) (blocks : List (List (List Action))) (start word : ℕ)
    → list_all (reduces_by op) (joined (joined blocks)) ≡ true →
    fold (combined op) word (operands (joined (joined blocks))) ≡ fold applied word (map (λ (k : Kept). k.partial)
    (map (λ iterations. kept iterations start) blocks))
all_applied op [] start word h = refl
all_applied op (block ∷ blocks) start word h =
    let parts : joined (block ++ joined blocks) ≡ joined block ++ joined (joined blocks) =
    joined-append block (joined blocks) in
    let all = all_parts (reduces_by op) (joined block) (joined (joined blocks)) (rw parts at h) in
    rw (
      parts,
      filter_map-append operand_of (joined block) (joined (joined blocks)),
      fold-append (combined op) word (operands (joined block)) (operands (joined (joined blocks))),
      ← partial_applied op (joined block) word all.0,
    ) (all_applied op blocks start (applied word (partial block)) all.1)

-- last writers
pub last_that-append : (test : List Action → Bool) (xs ys : List (List Action)) → last_that test (xs ++ ys)
    ≡ option_or (last_that test ys) (last_that test xs)
last_that-append test [] ys = or_none (last_that test ys)
  where
    or_none : (o : Option (List Action)) → o ≡ option_or o None
    or_none None = refl
    or_none (Some actions) = refl
last_that-append test (x ∷ xs) ys =
    ap (λ o. option_or o (if test x then Some x else None)) (last_that-append test xs ys)
    ∙ or_or (last_that test ys) (last_that test xs) (if test x then Some x else None)
  where
    or_or : (a b c : Option (List Action)) → option_or (option_or a b) c ≡ option_or a (option_or b c)
    or_or None b c = refl
    or_or (Some actions) b c = refl

map_or : (f : List Action → ℕ) (a b : Option (List Action)) → option_map f (option_or a b) ≡ option_or (option_map f a)
    (option_map f b)
map_or f None b = refl
map_or f (Some actions) b = refl

last_kept : (blocks : List (List (List Action))) (word : ℕ) → last_value (joined blocks) word
    ≡ last_of (map (λ (k : Kept). k.last_value) (map (λ iterations. kept iterations word) blocks))
last_kept [] word = refl
last_kept (block ∷ blocks) word =
    rw (
      last_that-append writes block (joined blocks),
      map_or (λ actions. left_by_all actions word)
          (last_that writes (joined blocks)) (last_that writes block),
      last_kept blocks word,
    ) refl

pub commits_of_kept : CommitsOfKept
commits_of_kept blocks word = go (only_operator (joined (joined blocks))) refl
  where
    go : (o : Option Op) → only_operator (joined (joined blocks)) ≡ o →
        committed_by o (joined blocks) word ≡ committed_of_kept (is_some o) (map (λ iterations. kept iterations word)
        blocks) word
    go None same = ap (λ o. unwrap_or o word) (last_kept blocks word)
    go (Some op) same = all_applied op blocks word word (only_reduces op (joined (joined blocks)) same)
