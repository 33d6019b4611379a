-- Each of the three kinds of step keeps the rule, and says what it is said to tell.
use Rattle.std.proofs.Common.{◌≡◌, ◌≢◌, ◌⊎◌, ℕ, ◌+◌, ◌%◌, ◌^◌, ◌<◌, ◌≤◌, ◌==◌, if◌then◌else◌, min, All, List, [], ◌∷◌}
use Rattle.std.proofs.Common.{set, slice_index, slice_set, inl, inr, ⊎_elim, refl, sym, ap, subst, arith}
use Rattle.std.proofs.lemmas.Bool.{cases_lt}
use mathlib.Core.Option.{some}
use lib.ListN.{get_elem?}
use Rattle.atomic_table.{specs.Table.{Me, Act, keeps, Valid, stepped, carried_after, Allows}, proofs.Lists.{at_set}}
use Rattle.loop_board.specs.{declared.view.{Extent.{Extent}, SeatView.{SeatView}}, Sums.{total, times, once_below}}
use Rattle.loop_board.specs.{History.{no_post, most_index, IsIndexOrNone, IsLeast}, Seats.{IsWithinLimits}}
use Rattle.loop_board.specs.Rule.{spent_view, ViewFits, Agrees, BoardInvariant, Claims, Looks, Turns, parts_of}
use Rattle.loop_board.specs.Rule.{nones_of, drawn_in, posted_in, seen_in, with_draw, with_none, with_look, with_post}
use Rattle.loop_board.proofs.Histories.{least_both, single, reached_single}
use Rattle.loop_board.proofs.Sums.{total-set, total_le, times-append, All-times, once_below-next, below_from_once}

abbrev V : Type 0
V = SeatView

-- a view with a part is of this board
pub of_board : (e : Extent) (v : V) → 0 < v.parts → ViewFits e v → (v.extent ≡ e) × (v.nones ≤ v.parts)
of_board e v part (inl is) = absurd (let none : v.parts ≡ 0 = ap (λ (u : V). u.parts) is in omega arith)
of_board e v part (inr f) = (f.0, f.2)

-- no seat found none more often than it has parts
nones_le_parts : (e : Extent) (v : V) → ViewFits e v → v.nones ≤ v.parts
nones_le_parts e v (inl is) = let none : v.nones ≡ 0 = ap (λ (u : V). u.nones) is in omega arith
nones_le_parts e v (inr f) = f.2

-- the least post is an index, or 4,294,967,295
pub least_index : (e : Extent) (next least : ℕ) (views : List V) → Agrees e next least views → IsIndexOrNone least
least_index e next least views h = ⊎_elim (λ (none_yet : least ≡ no_post). inr none_yet)
    (λ (there : 0 < posted_in least views). inl (h.indices least there)) h.posts.reached

-- where one view changes, and the new one fits, all fit
pub fits_set : (e : Extent) (views : List V) (id : ℕ) (w : V) → ((k : ℕ) (v : V) → get_elem? views k ≡ some v
    → ViewFits e v) → ViewFits e w → (k : ℕ) (v : V) → get_elem? (set views id w) k ≡ some v → ViewFits e v
fits_set e views id w fits new k v at =
    ⊎_elim (λ (x : (k ≡ id) × (w ≡ v)). subst (ViewFits e) x.1 new) (λ (x : (k ≢ id) × (get_elem? views k ≡ some v)).
    fits k v x.1) (at_set views id k w v at)

-- the posts are the same, however they are counted
pub least_as : (least : ℕ) (f g : ℕ → ℕ) → ((x : ℕ) → g x ≡ f x) → IsLeast least f → IsLeast least g
least_as least f g same h = record {
  most = h.most;
  below = λ x at. h.below x (let s = same x in omega arith);
  reached = rw (same least) h.reached;
}

-- the views `from` become the views `to`, which have as many parts and the same posts
pub turned : (e : Extent) (next next' least : ℕ) (views others from to : List V) → Agrees e next least views
    → ((k : ℕ) (v : V) → get_elem? others k ≡ some v → ViewFits e v)
    → ((f : V → ℕ) → total f others + total f from ≡ total f views + total f to) → parts_of from ≡ parts_of to
    → ((x : ℕ) → posted_in x from ≡ posted_in x to) → ((x : ℕ) → drawn_in x others ≡ once_below x (min next' e.blocks))
    → next' ≤ e.blocks + nones_of others → (0 < nones_of others → e.blocks ≤ next')
    → ((x : ℕ) → 0 < seen_in x others → (x ≡ no_post) ⊎ (0 < posted_in x views)) → Agrees e next' least others
turned e next next' least views others from to h fits moved parts posts draws room drained looks = record {
  fits = fits;
  parts = (let m = moved (λ (u : V). u.parts) in omega arith);
  draws = draws;
  room = room;
  drained = drained;
  posts = least_as least (λ x. posted_in x views) (λ x. posted_in x others) same h.posts;
  indices = λ x there. h.indices x (let s = same x in omega arith);
  looks = λ x there. rw (same x) (looks x there);
}
  where
    same : (x : ℕ) → posted_in x others ≡ posted_in x views
    same x = let m = moved (λ (u : V). times x u.posts) in let p = posts x in omega arith

-- one view among all changes
module _ (e : Extent) (next least : ℕ) (views : List V) (id : ℕ) (v : V) (part : v.parts ≡ 1)
    (h : Agrees e next least views) (at : get_elem? views id ≡ some v) where
  moved : (w : V) (f : V → ℕ) → total f (set views id w) + total f (v ∷ []) ≡ total f views + total f (w ∷ [])
  moved w f = let t = total-set f views id v w at in omega arith

  own : (v.extent ≡ e) × (v.nones ≤ v.parts)
  own = of_board e v (omega arith) (h.fits id v at)

  -- the seat draws the block found
  draws : v.nones ≡ 0 → next < e.blocks → Agrees e (next + 1) least (set views id (with_draw v next))
  draws never below =
      let w : V = with_draw v next in
      let nones = moved w (λ (u : V). u.nones) in
      turned e next (next + 1) least views (set views id w) (v ∷ []) (w ∷ []) h
      (fits_set e views id w h.fits (inr (own.0, (omega arith), own.1))) (moved w) refl (λ x. refl)
      (λ x. let t = moved w (λ (u : V). times x u.draws) in let was = h.draws x in
      let more = times-append x v.draws (next ∷ []) in let step = once_below-next x next e.blocks below in omega arith)
      (omega arith) (λ some_none. absurd (let r = h.drained (omega arith) in omega arith))
      (λ x there. h.looks x (let t = moved w (λ (u : V). times x u.looks) in omega arith))

  -- the seat finds none
  drains : v.nones ≡ 0 → e.blocks ≤ next → Agrees e (next + 1) least (set views id (with_none v))
  drains never past =
      let w : V = with_none v in
      let nones = moved w (λ (u : V). u.nones) in
      turned e next (next + 1) least views (set views id w) (v ∷ []) (w ∷ []) h
      (fits_set e views id w h.fits (inr (own.0, (omega arith), (omega arith)))) (moved w) refl (λ x. refl)
      (λ x. let t = moved w (λ (u : V). times x u.draws) in let was = h.draws x in
      let same : once_below x (min next e.blocks) ≡ once_below x (min (next + 1) e.blocks) =
      ap (once_below x) (omega arith) in omega arith)
      (omega arith) (λ _. omega arith)
      (λ x there. h.looks x (let t = moved w (λ (u : V). times x u.looks) in omega arith))

  -- the seat sees the least post
  looks : Agrees e next least (set views id (with_look v least))
  looks =
      let w : V = with_look v least in
      let nones = moved w (λ (u : V). u.nones) in
      turned e next next least views (set views id w) (v ∷ []) (w ∷ []) h
      (fits_set e views id w h.fits (inr (own.0, (omega arith), own.1))) (moved w) refl (λ x. refl)
      (λ x. let t = moved w (λ (u : V). times x u.draws) in let was = h.draws x in omega arith)
      (omega arith) (λ some_none. h.drained (omega arith))
      (λ x there. ⊎_elim (λ (is : 0 < (if x == least then 1 else 0)). rw (single least x is) h.posts.reached)
      (λ (was : (if x == least then 1 else 0) ≤ 0). h.looks x (let t = moved w (λ (u : V). times x u.looks) in
      let push = times-append x v.looks (least ∷ []) in omega arith)) (cases_lt 0 (if x == least then 1 else 0)))

  -- the seat posts an index
  posts : (index : ℕ) → index ≤ most_index → Agrees e next (min least index) (set views id (with_post v index))
  posts index small =
      let w : V = with_post v index in
      let parts = moved w (λ (u : V). u.parts) in
      let nones = moved w (λ (u : V). u.nones) in
      let more : (x : ℕ) → posted_in x (set views id w) ≡ (if x == index then 1 else 0) + posted_in x views =
      λ x. (let t = moved w (λ (u : V). times x u.posts) in let push = times-append x v.posts (index ∷ []) in
      omega arith) in record {
        fits = fits_set e views id w h.fits (inr (own.0, (omega arith), own.1));
        parts = omega arith;
        draws = λ x. (let t = moved w (λ (u : V). times x u.draws) in let was = h.draws x in omega arith);
        room = omega arith;
        drained = λ some_none. h.drained (omega arith);
        posts = least_both index least (min least index) (λ x. if x == index then 1 else 0) (λ x. posted_in x views)
            (λ x. posted_in x (set views id w)) (omega arith) more (λ x is. omega (arith, single index x is))
            (inr (reached_single index)) h.posts;
        indices = λ x there. (let m = more x in let was = h.indices x in let is = single index x in grind arith);
        looks = λ x there. (let m = more x in
            let was = h.looks x (let t = moved w (λ (u : V). times x u.looks) in omega arith) in grind arith);
      }

  -- the block found is above all that the seat drew
  above : All (λ x. x < next) v.draws
  above = All-times (λ x. x < next) v.draws (λ x there.
      let part = moved spent_view (λ (u : V). times x u.draws) in
      let all = h.draws x in
      let below = below_from_once x (min next e.blocks) (omega arith) in
      omega arith)

  -- nothing that the seat posted is below the least post
  over_posts : All (λ x. least ≤ x) v.posts
  over_posts = All-times (λ x. least ≤ x) v.posts
      (λ x there. h.posts.below x (let part = moved spent_view (λ (u : V). times x u.posts) in omega arith))

  -- nothing that the seat saw is below the least post
  over_looks : All (λ x. least ≤ x) v.looks
  over_looks = All-times (λ x. least ≤ x) v.looks (λ x there.
      let most = h.posts.most in
      let below = h.posts.below x in
      let seen = h.looks x (let part = moved spent_view (λ (u : V). times x u.looks) in omega arith) in
      grind arith)

-- what a step on the word i asks, where the rule is given by the two words
at_words : (e : Extent) (slots id : ℕ) (me : Me (Unit {0}) V) (i : ℕ) (f : ℕ → ℕ) (R : V → ℕ → V → Type 0)
    → ((next least : ℕ) (views : List V) → Agrees e next least views → get_elem? views id ≡ some me.0
    → (w : V) × (next' : ℕ) × (least' : ℕ) × (slice_set (next ∷ least ∷ []) i (f (slice_index (next ∷ least ∷ []) i))
    ≡ next' ∷ least' ∷ [])
    × Agrees e next' least' (set views id w) × R me.0 (slice_index (next ∷ least ∷ []) i) w)
    → Allows (BoardInvariant e) slots id me i f (Turns R me)
at_words e slots id me i f R go s kept _ at _ =
    let P : List ℕ → Type 0 = λ ws. (w : V) × (a : Act (Unit {0})) × Valid s.homes me.1 a
    × BoardInvariant e (stepped (record { words = ws; homes = s.homes; views = s.views }) i (f (slice_index ws i))
    id me.1 w a) × Turns R me (slice_index ws i) (w, carried_after me.1 a) in
    let r = go kept.next kept.least s.views kept.views at in
    subst P (sym kept.words) (r.0, keeps, tt, record { next = r.1; least = r.2; words = r.3; views = r.4 }, (r.5, refl))

-- a claim, which adds 1
pub claims : (e : Extent) → IsWithinLimits e.blocks e.workers → (slots id : ℕ) (me : Me (Unit {0}) V)
    → me.0.parts ≡ 1 → me.0.nones ≡ 0 → (added : ℕ) → added ≡ 1
    → Allows (BoardInvariant e) slots id me 0 (λ n. (n + added) % 2 ^ 64) (Turns Claims me)
claims e limits slots id me one never added is_one = at_words e slots id me 0 (λ n. (n + added) % 2 ^ 64) Claims
    (λ next least views h at.
    let few = total_le (λ (v : V). v.nones) (λ (v : V). v.parts) views (λ k v at. nones_le_parts e v (h.fits k v at)) in
    let own = of_board e me.0 (omega arith) (h.fits id me.0 at) in
    let all : me.0.extent.blocks ≡ e.blocks = ap (λ (x : Extent). x.blocks) own.0 in
    let words : ((next + added) % 2 ^ 64) ∷ least ∷ [] ≡ (next + 1) ∷ least ∷ [] =
    ap (λ (n : ℕ). n ∷ least ∷ []) (omega arith) in
    let over = above e next least views id me.0 one h at in
    ⊎_elim (λ (below : next < e.blocks). (
      with_draw me.0 next,
      next + 1,
      least,
      words,
      draws e next least views id me.0 one h at never below,
      record { above = over; draws = λ _. refl; drains = λ past. absurd (omega arith) },
    ))
    (λ (past : e.blocks ≤ next). (
      with_none me.0,
      next + 1,
      least,
      words,
      drains e next least views id me.0 one h at never past,
      record { above = over; draws = λ below. absurd (omega arith); drains = λ _. refl },
    ))
    (cases_lt next e.blocks))

-- a look
pub sees : (e : Extent) (slots id : ℕ) (me : Me (Unit {0}) V) → me.0.parts ≡ 1 → Allows (BoardInvariant e) slots id me 1
    (λ n. n) (Turns Looks me)
sees e slots id me one = at_words e slots id me 1 (λ n. n) Looks (λ next least views h at. (
  with_look me.0 least,
  next,
  least,
  refl,
  looks e next least views id me.0 one h at,
  record {
    most = h.posts.most;
    index = least_index e next least views h;
    posts = over_posts e next least views id me.0 one h at;
    looks = over_looks e next least views id me.0 one h at;
    seen = refl;
  },
))

-- a post
pub notes : (e : Extent) (slots id : ℕ) (me : Me (Unit {0}) V) (index : ℕ) → index ≤ most_index → me.0.parts ≡ 1
    → Allows (BoardInvariant e) slots id me 1 (λ n. min n index) (Turns (λ v _ w. w ≡ with_post v index) me)
notes e slots id me index small one = at_words e slots id me 1 (λ n. min n index) (λ v _ w. w ≡ with_post v index)
    (λ next least views h at. (
      with_post me.0 index,
      next,
      min least index,
      refl,
      posts e next least views id me.0 one h at index small,
      refl,
    ))
