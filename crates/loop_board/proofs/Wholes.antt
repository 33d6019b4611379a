-- All seats become one, which then knows the sums over all of them, and what the two words have to do with these.
use Rattle.std.proofs.Common.{Some, append_assoc, zero-add, ◌≡◌, ℕ, suc, ◌+◌, ◌<◌, ◌≤◌, min, Bool, true, false, IsTrue}
use Rattle.std.proofs.Common.{inl, inr, List, [], ◌∷◌, ◌++◌, All, set, refl, sym, ap, ◌∙◌, arith}
use mathlib.Core.Option.{some, some-injective}
use lib.ListN.{get_elem?}
use Rattle.atomic_table.specs.{Seated.{TableId}, Table.{Me, Final, Seen}}
use Rattle.loop_board.specs.{declared.view.{Extent.{Extent}, SeatView.{SeatView}}, Sums.{total, times}}
use Rattle.loop_board.specs.History.{Legal, least_post, times_posted, some_found_none}
use Rattle.loop_board.specs.{Seats.{BoardId, SeatRecord, histories}, Rule.{together, board_id_of, seat_record}}
use Rattle.loop_board.specs.Rule.{spent_view, opening_view, ViewFits, Agrees, BoardInvariant, IsWorkers, parts_of}
use Rattle.loop_board.specs.{Rule.{posted_in}, Whole.{IsWhole, IsTally}}
use Rattle.loop_board.proofs.{Sums.{total-set, times-append}, Histories.{least_post_is, one_least}}
use Rattle.loop_board.proofs.Moves.{least_as, least_index, fits_set}
use Rattle.std.proofs.lemmas.List.Elements.{All-pop}

abbrev V : Type 0
V = SeatView

-- some of the seats were taken in, and the rest are left
pub record Joined (t : TableId) (e : Extent) (seats left : List SeatRecord) (at : TableId)
    (me : Me (Unit {0}) SeatView) : Type 0 where
  pub table : at ≡ t
  pub no_slot : me.1 ≡ []
  pub some_part : 0 < me.0.parts
  pub boards : All (λ s. s.board ≡ board_id_of t e) left
  pub done : List SeatRecord
  pub all : seats ≡ left ++ done
  pub whole : IsWhole me.0 done

-- one more seat is taken in
one_more : (t : TableId) (v w : V) (drained : Bool) (done : List SeatRecord) → IsWhole v done → IsWorkers w drained
    → IsWhole (together v w) (seat_record t w drained ∷ done)
one_more t v w drained done h one = record {
  parts = omega (arith, h.parts, one.parts);
  nones = nones drained one;
  draws = λ x. omega (arith, h.draws x, times-append x v.draws w.draws);
  posts = λ x. omega (arith, h.posts x, times-append x v.posts w.posts);
  looks = λ x. omega (arith, h.looks x, times-append x v.looks w.looks);
}
  where
    nones : (drained : Bool) → IsWorkers w drained
        → IsTrue (some_found_none (histories (seat_record t w drained ∷ done))) → 0 < v.nones + w.nones
    nones true one is = omega (arith, one.nones)
    nones false one is = omega (arith, h.nones is)

-- one seat alone is whole for itself
alone : (t : TableId) (v : V) (drained : Bool) → IsWorkers v drained → IsWhole v (seat_record t v drained ∷ [])
alone t v drained h = simp zero-add at (one_more t (opening_view v.extent 0) v drained [] (record {
  parts = refl;
  nones = λ is. absurd (cc);
  draws = λ x. refl;
  posts = λ x. refl;
  looks = λ x. refl;
}) h)

-- a seat of the board is at its table
pub same_table : (t at : TableId) (e : Extent) (v : V) (drained : Bool) (s : SeatRecord) (board : BoardId)
    → seat_record at v drained ≡ s → s.board ≡ board → board_id_of t e ≡ board → at ≡ t
same_table t at e v drained s board is of_board same =
    ap (λ (s : SeatRecord). s.board.table) is ∙ ap (λ (b : BoardId). b.table) (of_board ∙ sym same)

-- one seat is left out, and the rest are of this board
module _ (t : TableId) (e : Extent) (left rest : List SeatRecord) (next : SeatRecord) (at : TableId) (v : V)
    (drained : Bool) (boards : All (λ s. s.board ≡ board_id_of t e) left) (split : left ≡ rest ++ next ∷ [])
    (is : seat_record at v drained ≡ next) where
  others : All (λ s. s.board ≡ board_id_of t e) rest × (next.board ≡ board_id_of t e)
  others = All-pop (λ s. s.board ≡ board_id_of t e) left rest (Some next) split boards

  -- it is at the same table
  pub at_table : at ≡ t
  at_table = same_table t at e v drained next (board_id_of t e) is others.1 refl

  -- the first seat
  pub begins : (slots : List (ℕ × Unit {0})) → slots ≡ [] → IsWorkers v drained → Joined t e left rest at (v, slots)
  begins slots none one = record {
    table = at_table;
    no_slot = none;
    some_part = omega (arith, one.parts);
    boards = others.0;
    done = next ∷ [];
    all = split;
    whole = rw (← is) (alone at v drained one);
  }

  -- one more seat
  pub goes_on : (seats : List SeatRecord) (seat : TableId) (me after : Me (Unit {0}) SeatView)
      → Joined t e seats left seat me → IsWorkers v drained → after ≡ (together me.0 v, me.1)
      → Joined t e seats rest seat after
  goes_on seats seat me after h one turned = rw turned record {
    table = h.table;
    no_slot = h.no_slot;
    some_part = omega (arith, h.some_part);
    boards = others.0;
    done = next ∷ h.done;
    all = h.all ∙ ap (λ (l : List SeatRecord). l ++ h.done) split ∙ append_assoc rest (next ∷ []) h.done;
    whole = rw (← is) (one_more at me.0 v drained h.done h.whole one);
  }

-- where the views have no part, they add nothing
total_none : (f : V → ℕ) → f spent_view ≡ 0 → (e : Extent) (views : List V)
    → ((k : ℕ) (v : V) → get_elem? views k ≡ some v → ViewFits e v) → parts_of views ≡ 0 → total f views ≡ 0
total_none f nothing e [] fits none_left = refl
total_none f nothing e (v ∷ vs) fits none_left =
    let rest = total_none f nothing e vs (λ k u at. fits (suc k) u at) (omega arith) in
    let first = here (fits 0 v refl) in
    omega arith
  where
    here : ViewFits e v → f v ≡ 0
    here (inl is) = ap f is ∙ nothing
    here (inr held) = absurd (omega (arith, held.1))

-- all sums over the views are those of the view with every part
module _ (e : Extent) (next least : ℕ) (views : List V) (id : ℕ) (v : V) (h : Agrees e next least views)
    (at : get_elem? views id ≡ some v) (every : e.workers ≤ v.parts) where
  all_of : (f : V → ℕ) → f spent_view ≡ 0 → total f views ≡ f v
  all_of f nothing =
      let parts = total-set (λ (u : V). u.parts) views id v spent_view at in
      let less = total-set f views id v spent_view at in
      let none_left = total_none f nothing e (set views id spent_view)
      (fits_set e views id spent_view h.fits (inl refl)) (omega arith) in
      omega arith

  tally : IsTally e v (min next e.blocks) least
  tally =
      let nones = all_of (λ (u : V). u.nones) refl in
      let posted : (x : ℕ) → times x v.posts ≡ posted_in x views = λ x. sym (all_of (λ (u : V). times x u.posts) refl)
      in record {
        within = omega arith;
        parts = omega (arith, all_of (λ (u : V). u.parts) refl, h.parts);
        drained = λ some_none. (let d = h.drained (omega arith) in omega arith);
        draws = λ x. sym (all_of (λ (u : V). times x u.draws) refl) ∙ h.draws x;
        index = least_index e next least views h;
        posts = least_as least (λ x. posted_in x views) (λ x. times x v.posts) posted h.posts;
        looks = λ x there. rw (posted x) (h.looks x (omega (arith, all_of (λ (u : V). times x u.looks) refl)));
      }

-- what the words are at the end
pub closes : (e : Extent) (id : ℕ) (v : V) (words : List ℕ) (slots : List (Unit {0})) → e.workers ≤ v.parts
    → Final (Seen (BoardInvariant e) id v) words slots
    → (next least : ℕ) → get_elem? words 0 ≡ some next → get_elem? words 1 ≡ some least
    → IsTally e v (min next e.blocks) least
closes e id v words slots every final next least first second =
    let kept = final.1.0 in
    let is : words ≡ kept.next ∷ kept.least ∷ [] = sym final.2 ∙ kept.words in
    let a : kept.next ≡ next = some-injective kept.next next (rw is at first) in
    let b : kept.least ≡ least = some-injective kept.least least (rw is at second) in
    rw (← a, ← b) (tally e kept.next kept.least final.0.views id v kept.views final.1.1 every)

-- the tally of a whole view is that of the seats
pub legal : (e : Extent) (v : V) (claimed least : ℕ) (seats : List SeatRecord) → IsWhole v seats
    → IsTally e v claimed least → Legal e.blocks claimed (histories seats)
legal e v claimed least seats whole t = record {
  within = t.within;
  each_once = λ x. sym (whole.draws x) ∙ t.draws x;
  all_blocks = λ some_none. t.drained (whole.nones some_none);
  looks = λ x there. rw (whole.posts x) at (t.looks x (omega (arith, whole.looks x)));
}

pub least_is : (e : Extent) (v : V) (claimed least : ℕ) (seats : List SeatRecord) → IsWhole v seats
    → IsTally e v claimed least → least ≡ least_post (histories seats)
least_is e v claimed least seats whole t =
    one_least least (least_post (histories seats)) (λ x. times_posted x (histories seats))
    (least_as least (λ x. times x v.posts) (λ x. times_posted x (histories seats)) (λ x. sym (whole.posts x))
    t.posts) (least_post_is (histories seats))
