-- Lanes that never conflict fail no test.
use Rattle.std.proofs.Common.{◌≡◌, ℕ, zero, suc, ◌+◌, ◌^◌, ◌<◌, ◌≤◌, Bool, true, false, ◌⊎◌, if◌then◌else◌, inl, inr}
use Rattle.std.proofs.{Common.{List, [], ◌∷◌, length, map, refl, sym, ap, subst, ◌∙◌, arith}, lemmas.List.{length-map}}
use Rattle.std.specs.{Prelude.{is_none, slice_index_or, slice_get, take, Some, None}, List.{list_all, range_with_len}}
use Rattle.std.proofs.lemmas.{Bool.{and_from, cases_Bool}, Option.{slice_get_within}, List.{Folds.{list_all-append}}}
use Rattle.std.proofs.lemmas.List.FromFn.{get_or-map-range_with_len, length-map-range_with_len}
use Rattle.std.proofs.Math.{Bool.{and-false}, ListN.{get_or-map}}
use Rattle.array_maps.specs.declared.access.Op.{Op}
use Rattle.array_maps.specs.Accesses.{Action, Reduce, Access, actions_at}
use Rattle.loop_core_model.specs.declared.loop_test.Test.{Test, TheVariants.{Lrpd, Flow}}
use Rattle.loop_core_model.proofs.FailingPairs.{fails_by_pair}
use Rattle.loop_core_model.specs.Actions.{writes, exposed, is_same, reduces_by, joined, only_operator}
use Rattle.loop_core_model.specs.Conflict.{fails_flow, fails_lrpd, fails, conflicts, at_element, FailingPair}
use Rattle.loop_core_model.proofs.OneElement.{and_true_left, and_true_right, same_op}
use Rattle.loop_core_model.specs.Effects.{accesses_on}
use Rattle.row_list.specs.{declared.row_op.RowOp.{RowOp}, Rows.{AreValuesOn, effects_by}}
use Rattle.row_facts.specs.{declared.site.Site.{Site}, Sites.{sites_of}, Meetings.{leaves, ReduceAlike}}
use Rattle.row_facts.specs.Elements.{reads, Touches}
use Rattle.row_facts.proofs.SiteLaws.{has-place, known}
use Rattle.loop_inspector.specs.{Inspections.{IsSurvey}, Open.{IsApartAt, IsInSome}}
use Rattle.loop_inspector.specs.declared.survey.Survey.{Survey}
use Rattle.loop_inspector.proofs.{CalmLaws.{IsNamed, Lane, named}, CutLaws.{site-at}}
use Rattle.loop_inspector.proofs.Deeds.{all_pass, alike_acts, each_act, first_read, operator_of, some_write}

-- iterations that do nothing at an element fail no test there
idle_flow : (iterations : List (List Action)) → joined iterations ≡ [] → fails_flow iterations ≡ false
idle_flow [] h = refl
idle_flow ([] ∷ rest) h = idle_flow rest h
idle_flow ((action ∷ actions) ∷ rest) h = absurd (cc)

idle_lrpd : (iterations : List (List Action)) → joined iterations ≡ [] → fails_lrpd iterations ≡ false
idle_lrpd [] h = refl
idle_lrpd ([] ∷ rest) h = idle_lrpd rest h
idle_lrpd ((action ∷ actions) ∷ rest) h = absurd (cc)

idle : (test : Test) (iterations : List (List Action)) → joined iterations ≡ [] → fails test iterations ≡ false
idle Lrpd iterations h = idle_lrpd iterations h
idle Flow iterations h = idle_flow iterations h

-- reduces by one operator, of which there are some, are reduction-only
reduction : (op : Op) (action : Action) (actions : List Action) → list_all (reduces_by op) (action ∷ actions) ≡ true
    → is_none (only_operator (action ∷ actions)) ≡ false
reduction op (Reduce by operand) actions h =
    let same : op ≡ by = same_op op by (and_true_left (is_same op by) _ h) in
    let rest : list_all (reduces_by by) actions ≡ true =
    subst (λ (o : Op). list_all (reduces_by o) actions ≡ true) same (and_true_right (is_same op by) _ h) in
    ap (λ (b : Bool). is_none (if b then Some by else None)) rest
reduction op _ actions h = absurd (cc)

-- so no element conflicts where all iterations do nothing or reduce by it
pub by_actions : (test : Test) (op : Op) (iterations : List (List Action)) (actions : List Action)
    → joined iterations ≡ actions → list_all (reduces_by op) actions ≡ true → conflicts test iterations ≡ false
by_actions test op iterations [] are h = rw (idle test iterations are) (and-false _)
by_actions test op iterations (action ∷ actions) are h = rw (are, reduction op action actions h) refl

-- iterations by what they make
abbrev pub at_these : (made : ℕ → List Access) (e from count : ℕ) → List (List Action)
at_these made e from count = at_element e (map made (range_with_len from count))

module _ (made : ℕ → List Access) (e : ℕ) where
  nth : (count k : ℕ) → k < count → slice_index_or (at_these made e 0 count) k [] ≡ actions_at e (made k)
  nth count k h =
      let same : 0 + k ≡ k = omega arith in
      get_or-map (actions_at e) (map made (range_with_len 0 count)) k []
      ∙ ap (actions_at e) (get_or-map-range_with_len made 0 count k k [] h same)

  joined_reduce : (op : Op) (count from : ℕ) → ((i : ℕ) → i < from + count
      → list_all (reduces_by op) (actions_at e (made i)) ≡ true)
      → list_all (reduces_by op) (joined (at_these made e from count)) ≡ true
  joined_reduce op zero from each = refl
  joined_reduce op (suc count) from each =
      list_all-append (reduces_by op) (actions_at e (made from)) (joined (at_these made e (from + 1) count))
      ∙ and_from _ _ (each from (omega arith)) (joined_reduce op count (from + 1) (λ i high. each i (omega arith)))

module _ (list : List RowOp) (n : ℕ) (few : n ≤ 2 ^ 23) (survey : Survey) (is : IsSurvey list n survey)
    (caller words : List ℕ) (values : ℕ → List ℕ) (found : ℕ → ℕ → List ℕ)
    (are : (i : ℕ) → i < n → AreValuesOn list i caller (found i) (values i)) where
  -- what the lane of an index accesses
  abbrev pub lane_accesses : ℕ → List Access
  lane_accesses i = accesses_on words (effects_by list (values i) words)

  abbrev sites : List Site
  sites = survey.sites.items

  -- an operation that touches an element in a lane has a site
  record HasSite (op : RowOp) (i e : ℕ) : Type 0 where
    k : ℕ
    site : Site
    there : slice_get sites k ≡ Some site
    same : site.op ≡ op
    named : IsNamed site i e

  site_of : (i e k : ℕ) (op : RowOp) → i < n → slice_get list k ≡ Some op → Touches op (values i) e → HasSite op i e
  site_of i e k op below there touch =
      let one = known list is.facts sites (length (sites_of (take k list))) op is.are_sites
      (site-at list k op there (has-place op touch.place touch.is)) in
      let lane : Lane list i = record { caller = caller; words = found i; values = values i; are = are i below } in
      record {
        k = length (sites_of (take k list));
        site = one.site;
        there = one.there;
        same = one.same;
        named = named list is.facts one.site i e is.are_facts one.is (omega (arith, below, few)) lane
            (subst (λ (o : RowOp). Touches o (values i) e) (sym one.same) touch);
      }

  -- one that passes a test does
  abbrev HasThat : (RowOp → Bool) → (i e : ℕ) → Type 0
  HasThat test i e = (op : RowOp) × (test op ≡ true) × HasSite op i e

  -- all lanes do nothing at an element but reduce it by one operator
  record OnlyReduced (e : ℕ) : Type 0 where
    op : Op
    each : (i : ℕ) → i < n → list_all (reduces_by op) (actions_at e (lane_accesses i)) ≡ true

  -- lanes of which one writes an element that isn't open, and a later one reads it, do nothing else
  pair_reduces : (e earlier later : ℕ) → (IsInSome survey.spans.items e → ⊥) → earlier < later → later < n
      → HasThat leaves earlier e → HasThat reads later e → OnlyReduced e
  pair_reduces e earlier later closed order below wrote read =
      go ((is.all.each at.k at.site (slice_get_within sites at.k at.site at.there) at.there (ap reads at.same
      ∙ read.1)).each
      e by.k by.site (slice_get_within sites by.k by.site by.there) by.there (ap leaves by.same ∙ wrote.1))
    where
      at : HasSite read.0 later e
      at = read.2

      by : HasSite wrote.0 earlier e
      by = wrote.2

      go : IsInSome survey.spans.items e ⊎ IsApartAt sites at.site by.site n e → OnlyReduced e
      go (inl inside) = absurd (closed inside)
      go (inr (inl misses)) = absurd (misses.never earlier later at.named.byte by.named.byte order below at.named.sure
          by.named.sure at.named.inside by.named.inside)
      go (inr (inr alone)) = record {
        op = operator_of by.site.op;
        each = λ i inside. all_pass (reduces_by (operator_of by.site.op)) (actions_at e (lane_accesses i))
            (each_act (values i) words e (λ action. reduces_by (operator_of by.site.op) action ≡ true) list words
            (λ k op there touch deed kind on.
            let one = site_of i e k op inside there touch in
            elim (alone.1 one.k one.site one.there) [
              | inl alike ↦ alike_acts by.site.op op deed kind (subst (ReduceAlike by.site.op) one.same alike) on
              | inr apart ↦ absurd (apart.never i earlier one.named.byte by.named.byte inside (omega (
                arith,
                order,
                below,
              ))
                  one.named.sure by.named.sure (one.named.inside ∙ sym by.named.inside))
            ]));
      }

  -- elements that aren't open don't conflict
  pub calm_at : (count e : ℕ) → count ≤ n → (IsInSome survey.spans.items e → ⊥)
      → conflicts Flow (at_these lane_accesses e 0 count) ≡ false
  calm_at count e within closed = elim (cases_Bool (fails_flow (at_these lane_accesses e 0 count))) [
    | inl failing ↦
        let pair : FailingPair Flow (at_these lane_accesses e 0 count) = (fails_by_pair Flow _).0 failing in
        let long : length (at_these lane_accesses e 0 count) ≡ count =
        length-map (map lane_accesses (range_with_len 0 count)) (actions_at e)
        ∙ length-map-range_with_len lane_accesses 0 count in
        let order : pair.writer < pair.reader = pair.opposed in
        let inside : pair.reader < count = omega (arith, pair.reader_within, long) in
        let below : pair.reader < n = omega (arith, inside, within) in
        let only : OnlyReduced e = pair_reduces e pair.writer pair.reader closed order below
        (some_write _ _ (each_act (values pair.writer) words e _ list words (λ k op there touch deed kind on wrote.
        (op, kind.leaving on wrote, site_of pair.writer e k op (omega (arith, order, below)) there touch)))
        (sym (ap writes (nth lane_accesses e count pair.writer (omega (arith, order, inside)))) ∙ pair.writing))
        (first_read _ _ (each_act (values pair.reader) words e _ list words (λ k op there touch deed kind on read.
        (op, kind.reading on read, site_of pair.reader e k op below there touch)))
        (sym (ap exposed (nth lane_accesses e count pair.reader inside)) ∙ pair.reading)) in
        by_actions Flow only.op (at_these lane_accesses e 0 count) _ refl
        (joined_reduce lane_accesses e only.op count 0 (λ i high. only.each i (omega (arith, high, within))))
    | inr passes ↦ rw passes (and-false _)
  ]
