-- Lemmas on the histories of all seats: their least post, and who drew which block.
use Rattle.std.proofs.Common.{◌≡◌, ◌⊎◌, ℕ, ◌+◌, ◌<◌, ◌≤◌, ◌==◌, if◌then◌else◌, min, List, [], ◌∷◌, length}
use Rattle.std.proofs.{Common.{inl, inr, refl, arith}, lemmas.Bool.Decides.{nat_tests}, lemmas.List.Folds.{list_any_at}}
use Rattle.loop_board.specs.{Sums.{times}, Draws.{drawn_by, LegalDraws}, History.{History, times_posted, no_post}}
use Rattle.loop_board.specs.History.{IsLeast, nothing_done, least_index_in, least_post}
use Rattle.loop_board.proofs.Sums.{some_in_total, one_in_total, two_in_total, below_from_once, once_below-below}

-- the lesser of two least indices, of which the first may be of any size, is the least of both
pub least_both : (m n least : ℕ) (f g h : ℕ → ℕ) → least ≡ min m n → ((x : ℕ) → h x ≡ f x + g x)
    → ((x : ℕ) → 0 < f x → m ≤ x) → (m ≡ no_post) ⊎ (0 < f m) → IsLeast n g → IsLeast least h
least_both m n least f g h is both below reached rest = record {
  most = (let most = rest.most in omega arith);
  below = λ x there. let b = both x in let low = below x in let r = rest.below x in grind arith;
  reached = (let b = both least in let r = rest.reached in grind arith);
}

-- an index alone is in no other place
pub single : (p x : ℕ) → 0 < (if x == p then 1 else 0) → x ≡ p
single p x there = grind (arith, nat_tests)

pub reached_single : (p : ℕ) → 0 < (if p == p then 1 else 0)
reached_single p = grind (arith, nat_tests)

-- the least index in a list
least_in : (ps : List ℕ) → IsLeast (least_index_in ps) (λ x. times x ps)
least_in [] = record { most = omega arith; below = λ x there. absurd (omega arith); reached = inl refl }
least_in (p ∷ ps) = least_both p (least_index_in ps) _ (λ x. if x == p then 1 else 0) (λ x. times x ps)
    (λ x. times x (p ∷ ps)) refl (λ x. refl) (λ x is. omega (arith, single p x is)) (inr (reached_single p))
    (least_in ps)

-- the least post is the least index that was posted
pub least_post_is : (hs : List History) → IsLeast (least_post hs) (λ x. times_posted x hs)
least_post_is [] = record { most = omega arith; below = λ x there. absurd (omega arith); reached = inl refl }
least_post_is (h ∷ hs) = let here = least_in h.posts in
    least_both (least_index_in h.posts) (least_post hs) _ (λ x. times x h.posts) (λ x. times_posted x hs)
    (λ x. times_posted x (h ∷ hs)) refl (λ x. refl) here.below here.reached (least_post_is hs)

-- there is one least index at most
pub one_least : (m n : ℕ) (f : ℕ → ℕ) → IsLeast m f → IsLeast n f → m ≡ n
one_least m n f a b =
    let m_most = a.most in let n_most = b.most in let m_below = a.below n in let n_below = b.below m in
    let m_reached = a.reached in let n_reached = b.reached in
    grind arith

pub legal_draws : LegalDraws
legal_draws blocks claimed hs legal = record {
  some = λ x below.
      let once = legal.each_once x in
      let one = once_below-below x claimed below in
      let found = some_in_total (λ (h : History). times x h.draws) hs (omega arith) in
      (found.0, found.1, found.2 nothing_done);
  once = drew_once;
  alone = λ j k x before at there.
      let both = two_in_total (λ (h : History). times x h.draws) hs j k nothing_done before at in
      let once = legal.each_once x in
      let first = drew_once j x (omega arith) there in
      let one = once_below-below x claimed first.0 in
      omega arith;
  all = λ k at none. legal.all_blocks (list_any_at (λ (h : History). h.found_none) hs k nothing_done at none);
}
  where
    drew_once : (k x : ℕ) → k < length hs → 0 < drawn_by hs k x → (x < claimed) × (drawn_by hs k x ≡ 1)
    drew_once k x at there =
        let part = one_in_total (λ (h : History). times x h.draws) hs k nothing_done at in
        let once = legal.each_once x in
        let below = below_from_once x claimed (omega arith) in
        let one = once_below-below x claimed below in
        (below, omega arith)
