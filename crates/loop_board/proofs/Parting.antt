-- A seat is cut in two, or two are made one: the sums over all views stay as they are, and so does the rule.
use Rattle.std.proofs.Common.{◌≡◌, ◌≢◌, ℕ, ◌+◌, ◌<◌, List, [], ◌∷◌, ◌++◌, set, inl, inr, ⊎_elim, refl, subst, arith}
use mathlib.Core.Option.{some}
use lib.ListN.{get_elem?}
use Rattle.atomic_table.{specs.Table.{Splits, Joins}, proofs.Lists.{at_set, at_snoc}}
use Rattle.loop_board.specs.{declared.view.{Extent.{Extent}, SeatView.{SeatView}}, Sums.{total, times}}
use Rattle.loop_board.specs.Rule.{drawn_in, posted_in, seen_in, less_a_part, together, spent_view, opening_view}
use Rattle.loop_board.specs.Rule.{ViewFits, Agrees, BoardInvariant, parts_of, nones_of}
use Rattle.loop_board.proofs.{Sums.{total-set, total-append, times-append}, Moves.{of_board, fits_set, turned}}

abbrev V : Type 0
V = SeatView

-- the views `from` become the views `to`, which have the same sums
regrouped : (e : Extent) (next least : ℕ) (views others from to : List V) → Agrees e next least views
    → ((k : ℕ) (v : V) → get_elem? others k ≡ some v → ViewFits e v)
    → ((f : V → ℕ) → total f others + total f from ≡ total f views + total f to) → parts_of from ≡ parts_of to
    → nones_of from ≡ nones_of to → ((x : ℕ) → drawn_in x from ≡ drawn_in x to)
    → ((x : ℕ) → posted_in x from ≡ posted_in x to) → ((x : ℕ) → seen_in x from ≡ seen_in x to)
    → Agrees e next least others
regrouped e next least views others from to h fits moved parts nones draws posts looks =
    let n = moved (λ (u : V). u.nones) in
    turned e next next least views others from to h fits moved parts posts
    (λ x. let m = moved (λ (u : V). times x u.draws) in let d = draws x in let was = h.draws x in omega arith)
    (omega arith) (λ some_none. h.drained (omega arith))
    (λ x there. h.looks x (let m = moved (λ (u : V). times x u.looks) in let l = looks x in omega arith))

-- a seat that has done nothing gives one of its parts away
pub deals : (e : Extent) (id : ℕ) (v : V) → 1 < v.parts → v.nones ≡ 0 → Splits (BoardInvariant e) id v (less_a_part v)
    (opening_view v.extent 1)
deals e id v more never s kept at =
    let left = less_a_part v in
    let right = opening_view v.extent 1 in
    let own = of_board e v (omega arith) (kept.views.fits id v at) in
    let second : ViewFits e right = inr (own.0, (omega arith), (omega arith)) in
    record {
      next = kept.next;
      least = kept.least;
      words = kept.words;
      views = regrouped e kept.next kept.least s.views (set s.views id left ++ right ∷ []) (v ∷ [])
          (left ∷ right ∷ []) kept.views
          (λ k u here. ⊎_elim (λ was. fits_set e s.views id left kept.views.fits (inr (
            own.0,
            (omega arith),
            (omega arith),
          )) k u was) (λ (is : right ≡ u). subst (ViewFits e) is second)
          (at_snoc (set s.views id left) right u k here))
          (λ f. let a = total-set f s.views id v left at in let b = total-append f (set s.views id left) (right ∷ []) in
          omega arith)
          (omega arith) (omega arith) (λ x. omega arith) (λ x. omega arith) (λ x. omega arith);
    }

-- a seat takes in another
pub takes_in : (e : Extent) (id : ℕ) (v : V) (other : ℕ) (w : V) → 0 < v.parts → 0 < w.parts
    → Joins (BoardInvariant e) id v other w (together v w) spent_view
takes_in e id v other w some_v some_w s kept at apart there =
    let both = together v w in
    let was : get_elem? s.views other ≡ some w = ⊎_elim (λ (x : (other ≡ id) × (both ≡ w)). absurd (apart x.0))
    (λ (x : (other ≢ id) × (get_elem? s.views other ≡ some w)). x.1) (at_set s.views id other both w there) in
    let mine = of_board e v some_v (kept.views.fits id v at) in
    let theirs = of_board e w some_w (kept.views.fits other w was) in
    record {
      next = kept.next;
      least = kept.least;
      words = kept.words;
      views = regrouped e kept.next kept.least s.views (set (set s.views id both) other spent_view) (v ∷ w ∷ [])
          (both ∷ spent_view ∷ []) kept.views
          (fits_set e (set s.views id both) other spent_view (fits_set e s.views id both kept.views.fits (inr (
            mine.0,
            (omega arith),
            (omega arith),
          ))) (inl refl))
          (λ f. let a = total-set f s.views id v both at in
          let b = total-set f (set s.views id both) other w spent_view there in omega arith)
          (omega arith) (omega arith) (λ x. omega (arith, times-append x v.draws w.draws))
          (λ x. omega (arith, times-append x v.posts w.posts)) (λ x. omega (arith, times-append x v.looks w.looks));
    }
