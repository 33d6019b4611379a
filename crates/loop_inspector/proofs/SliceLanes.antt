-- The lanes of a slice are those of its list.
use Rattle.std.proofs.Common.{◌≡◌, ℕ, zero, suc, ◌/◌, ◌^◌, ◌<◌, ◌≤◌, Bool, true, false, inl, inr, List, []}
use Rattle.std.proofs.Common.{◌∷◌, ◌++◌, take, arith, length, map, get_or, slice_index, refl, sym, ap, ap₂, ◌∙◌, subst}
use Rattle.std.{specs.{Prelude.{slice_get, Some}, List.{AllByRecursion}}, proofs.lemmas.Bool.{cases_Bool, cases_lt}}
use Rattle.std.proofs.lemmas.{Option.{get_or_from_slice_get, slice_get_within, slice_get-get_or}, List.{map-append}}
use Rattle.array_maps.specs.{MapList.{AreWords}, Accesses.{Access, Action, actions_at, words_after_all}}
use Rattle.array_maps.specs.declared.access.Part.{Part, TheVariants.{Whole, Half as Of}}
use Rattle.bpf_insn_types.specs.{declared.insn.SimpleOp.{SimpleOp}, WordBounds.{ResultsFit}}
use Rattle.bpf_step_model.specs.Step.{Request, Load as Loads, store_of, update_of}
use Rattle.bpf_step_model.specs.AreaWords.{part_named}
use Rattle.loop_core_model.specs.{declared.access.Access.{Access as Kind}, Effects.{Effect, accesses_on, kind_of_deed}}
use Rattle.loop_core_model.proofs.Turns.{actions_at-append}
use Rattle.row_list.specs.declared.row_op.{Place.{Place}, RowOp.{RowOp, TheVariants.{Number, Load, Store, Reduce}}}
use Rattle.row_list.specs.Lanes.{run_words}
use Rattle.row_list.specs.Rows.{AreValues, AreValuesOn, IsRowValue, row_effects, effects_by}
use Rattle.row_list.specs.Rows.{access_at, access_effects, byte_at, deed_of, is_in}
use Rattle.row_list.proofs.{EffectLaws.{accesses_both}, ReadLaws.{no_access}}
use Rattle.row_list.proofs.SameLanes.{all_by, same_value, same_effects}
use Rattle.row_list.specs.Places.{is_access, taken_by}
use Rattle.row_facts.specs.{Elements.{Touches}, Meetings.{leaves}}
use Rattle.row_facts.{specs.Sites.{IsSite, sites_of}, proofs.SiteLaws.{has-place}}
use Rattle.loop_marks.{specs.Touches.{Touch, touch_by, touch_of, touches_of}, proofs.VisitLaws.{touches_on}}
use Rattle.loop_inspector.specs.{Open.{IsInSome}, Inspections.{IsSurvey}}
use Rattle.loop_inspector.specs.Slices.{with_number, IsNeeded, IsChangeAt, IsClosed, IsCut, IsSlice}
use Rattle.loop_inspector.specs.declared.{survey.Survey.{Survey}, slice.Slice.{Slice}}
use Rattle.loop_inspector.proofs.{ActLaws.{KindIfAccess}, CalmLaws.{named}, FrameNumbers.{AreBytes}}
use Rattle.loop_inspector.proofs.OwnLaws.{IsApart, finds_same}
use Rattle.loop_inspector.proofs.{CutLaws.{site-at, site-before}, Deeds.{IsDone, all_done, each_action}}
use Rattle.loop_inspector.proofs.Values.{After, are_values, lane_after, made_of_own, takes_below}

-- accesses that touch this, and are all those of effects at open elements
pub record Keeps (survey : Survey) (touches : List Touch) (effects : List Effect) (now : List ℕ) : Type 0 where
  pub made : List Access
  pub touch : touches_of made ≡ touches
  pub at_open : (e : ℕ) → IsInSome survey.spans.items e → actions_at e made ≡ actions_at e (accesses_on now effects)

-- a lane of a list, that alone changes the words: it returns what the slice's lane returns, and touches what that
-- touches, but for what isn't open
pub record Extended (list : List RowOp) (n : ℕ) (survey : Survey) (result : ℕ) (slice : Slice) (index : ℕ)
    (caller words cut_values : List ℕ) : Type 0 where
  pub values : List ℕ
  pub are : AreValuesOn list index caller (run_words list values words) values
  pub same : slice_index values result ≡ slice_index cut_values result
  pub kept : Keeps survey (map touch_by (effects_by slice.list.list.items cut_values words)) (effects_by list values
      words)
      words

-- what leaves something is an access
leaving_access : (op : RowOp) → leaves op ≡ true → is_access op ≡ true
leaving_access RowOp.All left = cc
leaving_access _ left = cc

all_with : {P Q R : ℕ → Type 0} (ks : List ℕ) → ((k : ℕ) → P k → Q k → R k) → AllByRecursion P ks
    → AllByRecursion Q ks → AllByRecursion R ks
all_with [] f one two = tt
all_with (k ∷ ks) f one two = (f k one.0 two.0, all_with ks f one.1 two.1)

-- stores and reductions of other numbers touch the same
abbrev SameKinds : (Part → ℕ → Request) → Type 0
SameKinds request = (part : Part) (n m word : ℕ) → kind_of_deed (deed_of (request part n) word)
    ≡ kind_of_deed (deed_of (request part m) word)

stores_alike : SameKinds store_of
stores_alike Whole n m word = refl
stores_alike (Of half) n m word = refl

updates_alike : (op : SimpleOp) → SameKinds (λ part n. update_of part op n)
updates_alike op Whole n m word = refl
updates_alike op (Of half) n m word = refl

both_kept : (survey : Survey) (one two : List Touch) (effects more : List Effect) (now : List ℕ)
    → Keeps survey one effects now → Keeps survey two more (words_after_all (accesses_on now effects) now)
    → Keeps survey (one ++ two) (effects ++ more) now
both_kept survey one two effects more now first rest = record {
  made = first.made ++ rest.made;
  touch = map-append touch_of first.made rest.made ∙ ap₂ (λ (a b : List Touch). a ++ b) first.touch rest.touch;
  at_open = λ e is. actions_at-append e first.made rest.made
      ∙ ap₂ (λ (a b : List Action). a ++ b) (first.at_open e is) (rest.at_open e is)
      ∙ sym (ap (actions_at e) (accesses_both now effects more) ∙ actions_at-append e (accesses_on now effects) _);
}

none_left : (actions : List Action) → AllByRecursion (λ action. ⊥) actions → [] ≡ actions
none_left [] all = refl
none_left (action ∷ actions) all = absurd all.0

-- a list, its sites and the slice for the elements that are open, and a lane of the slice
module _ (fits : ResultsFit) (list : List RowOp) (n : ℕ) (survey : Survey) (known : IsSurvey list n survey) (result : ℕ)
    (slice : Slice) (is : IsSlice survey.sites.items survey.spans.items list result slice)
    (has : (k : ℕ) (op : RowOp) → slice_get list k ≡ Some op → KindIfAccess op) (index : ℕ) (caller words : List ℕ)
    (bytes : AreBytes caller) (fit : AreWords words) (low : index ≤ 2 ^ 23) (cut_values : List ℕ)
    (are : AreValues slice.list.list.items index caller words cut_values) where
  abbrev Needed : ℕ → Type 0
  Needed k = IsNeeded is.needed k

  lane : After fits index caller cut_values [] list words
  lane = lane_after fits index caller cut_values list words known.ordered

  abbrev all : List ℕ
  all = lane.values

  abbrev found : ℕ → List ℕ
  found = run_words list all words

  run : AreValuesOn list index caller found all
  run = are_values fits index caller cut_values list words lane bytes (omega (arith, low)) are.fit fit

  free : (k : ℕ) (op : RowOp) → slice_get list k ≡ Some op → is_access op ≡ true → Needed k → (j : ℕ)
      (by : RowOp) → j < k → slice_get list j ≡ Some by → KindIfAccess by × IsApart all words op by
  free k op there access need j by less here = (
    has j by here,
    λ left loaded half touch touched.
        let also = leaving_access by left in
        ((is.own known.facts known.are_facts known.are_sites k op there access need).each
        (length (sites_of (take j list))) op by (site-at list k op there access) (site-at list j by here also) left
        loaded
        (site-before list j k by less here also)).none index caller found all low run half touch touched,
  )

  -- a value that is needed is as on the words from before
  on_run : (k : ℕ) (op : RowOp) → slice_get list k ≡ Some op → Needed k → (b : Bool) → is_access op ≡ b
      → IsRowValue op index caller all words (slice_index cut_values k)
      → IsRowValue op index caller all (found k) (slice_index cut_values k)
  on_run k op there need false access value = rw (no_access op access all) (rw (no_access op access all) at value)
  on_run k op there need true access value =
      finds_same all words fit index caller list k op (has k op there access) (free k op there access need)
      (slice_index cut_values k) value

  abbrev IsCutHere : ℕ → (op cut : RowOp) → Type 0
  IsCutHere k op cut = IsCut survey.sites.items survey.spans.items is.needed k result op cut

  same_at : (k : ℕ) (op : RowOp) → slice_get list k ≡ Some op → Needed k
      → ((j : ℕ) → j < k → Needed j → slice_index all j ≡ slice_index cut_values j) → (made : RowOp)
      → slice_get slice.list.list.items k ≡ Some made → IsCutHere k op made
      → slice_index all k ≡ slice_index cut_values k
  same_at k op there need before made made_there (inl whole) =
      let value : IsRowValue op index caller all words (slice_index cut_values k) =
      same_value op index caller words cut_values all (slice_index cut_values k)
      (all_with (taken_by op) (λ j less need. sym (before j less need)) (takes_below k op (known.ordered.each k op
      there))
      whole.takes) (rw whole.same at (are.each k made made_there)) in
      lane.each k k op (omega arith) there
      ∙ made_of_own fits index caller op all (found k) (slice_index cut_values k)
      (on_run k op there need (is_access op) refl value)
  same_at k op there need before made made_there (inr (inl change)) = absurd (change.unneeded need)
  same_at k op there need before made made_there (inr (inr nothing)) = absurd (nothing.unneeded need)

  upto : (m k : ℕ) → k < m → Needed k → slice_index all k ≡ slice_index cut_values k
  upto zero k less need = absurd (omega (arith, less))
  upto (suc m) k less need = elim (cases_lt k (length list)) [
    | inr past ↦ lane.past k (omega (arith, past))
    | inl inside ↦
        let cuts = slice.list.list.items in
        let op = get_or list k RowOp.All in
        let there = slice_get-get_or list k RowOp.All inside in
        let there_too = slice_get-get_or cuts k RowOp.All (omega (arith, inside, is.cuts.count)) in
        same_at k op there need (λ j before. upto m j (omega (arith, before, less))) (get_or cuts k RowOp.All) there_too
        (is.cuts.each k op (get_or cuts k RowOp.All) there there_too)
  ]

  same : (k : ℕ) → Needed k → slice_index all k ≡ slice_index cut_values k
  same k = upto (suc k) k (omega arith)

  abbrev touches_at : RowOp → (values : List ℕ) → List Touch
  touches_at op values = map touch_by (row_effects op values words)

  change_at : (place : Place) (one other : Part → Request) → Needed place.mask × Needed place.address
      → ((part : Part) (word : ℕ) → kind_of_deed (deed_of (one part) word) ≡ kind_of_deed (deed_of (other part) word))
      → map touch_by (access_effects (access_at all place one) all words)
      ≡ map touch_by (access_effects (access_at cut_values place other) cut_values words)
  change_at place one other needs alike =
      let byte = byte_at cut_values place in
      rw (same place.mask needs.0, same place.address needs.1) (elim (cases_Bool (is_in cut_values place.mask)) [
        | inl there ↦ rw there (ap (λ (kind : Kind). record { element = byte / 8; kind = kind } ∷ [])
            (alike (part_named place.width byte) (slice_index words (byte / 8))))
        | inr out ↦ rw out refl
      ])

  change_touches : (op : RowOp) (number : ℕ) → IsChangeAt is.needed op
      → touches_at op all ≡ touches_at (with_number op number) cut_values
  change_touches (Load place extension) number needs =
      change_at place (λ part. Loads part extension 0) (λ part. Loads part extension 0) needs (λ part word. refl)
  change_touches (Store place value) number needs = change_at place (λ part. store_of part (slice_index all value))
      (λ part. store_of part (slice_index cut_values number)) needs (λ part. stores_alike part _ _)
  change_touches (Reduce place op value) number needs =
      change_at place (λ part. update_of part op (slice_index all value))
      (λ part. update_of part op (slice_index cut_values number)) needs (λ part. updates_alike op part _ _)
  change_touches _ number needs = absurd needs

  abbrev KeepsOp : (op cut : RowOp) → (now : List ℕ) → Type 0
  KeepsOp op cut now = Keeps survey (touches_at cut cut_values) (row_effects op all words) now

  -- an operation that touches the same
  all_kept : (op cut : RowOp) (now : List ℕ) → touches_at op all ≡ touches_at cut cut_values → KeepsOp op cut now
  all_kept op cut now alike = record {
    made = accesses_on now (row_effects op all words);
    touch = touches_on (row_effects op all words) now ∙ alike;
    at_open = λ e inside. refl;
  }

  -- one that touches no open element
  none_kept : (op : RowOp) (now : List ℕ) → (is_access op ≡ true → IsClosed survey.sites.items survey.spans.items op)
      → KeepsOp op (Number 0) now
  none_kept op now closed = record {
    made = [];
    touch = refl;
    at_open = λ e inside. none_left _ (each_action all words e (λ action. ⊥) (IsDone op all)
        (λ effect done here on. never e inside effect done here) (row_effects op all words) now (all_done all words
        op));
  }
    where
      never : (e : ℕ) → IsInSome survey.spans.items e → (effect : Effect) → IsDone op all effect
          → effect.element ≡ e → ⊥
      never e inside effect done here =
          let shut = closed (has-place op done.touches.place done.touches.is) in
          let at : IsSite list known.facts shut.site = subst (IsSite list known.facts)
          (get_or_from_slice_get survey.sites.items shut.k shut.site shut.site shut.there)
          (known.are_sites.each shut.k shut.site (slice_get_within survey.sites.items shut.k shut.site shut.there)) in
          let byte = named list known.facts shut.site index e known.are_facts at low
          (record { caller = caller; words = found; values = all; are = run })
          (rw shut.same (subst (Touches op all) here done.touches)) in
          shut.avoids e inside byte.byte byte.sure.in_range byte.inside

  op_kept : (k : ℕ) (op cut : RowOp) (now : List ℕ) → IsCutHere k op cut → KeepsOp op cut now
  op_kept k op cut now (inl whole) = rw whole.same (all_kept op op now
      (ap (map touch_by) (same_effects op words all cut_values (all_by (taken_by op) same whole.takes))))
  op_kept k op cut now (inr (inl change)) =
      rw change.same (all_kept op (with_number op result) now (change_touches op result change.change))
  op_kept k op cut now (inr (inr nothing)) = rw nothing.same (none_kept op now nothing.closed)

  -- each is cut so, at some place
  list_kept : (ops cuts : List RowOp) → length cuts ≡ length ops → ((j : ℕ) (op cut : RowOp) → slice_get ops j ≡ Some op
      → slice_get cuts j ≡ Some cut → (k : ℕ) × IsCutHere k op cut) → (now : List ℕ)
      → Keeps survey (map touch_by (effects_by cuts cut_values words)) (effects_by ops all words) now
  list_kept [] [] count cut now = record { made = []; touch = refl; at_open = λ e inside. refl }
  list_kept [] (c ∷ cuts) count cut now = absurd (cc count)
  list_kept (op ∷ ops) [] count cut now = absurd (cc count)
  list_kept (op ∷ ops) (c ∷ cuts) count cut now =
      let one = cut 0 op c refl refl in
      rw (map-append touch_by (row_effects c cut_values words) (effects_by cuts cut_values words))
      (both_kept survey (touches_at c cut_values) (map touch_by (effects_by cuts cut_values words))
      (row_effects op all words) (effects_by ops all words) now (op_kept one.0 op c now one.1)
      (list_kept ops cuts (omega (arith, count)) (λ j o d here there. cut (suc j) o d here there)
      (words_after_all (accesses_on now (row_effects op all words)) now)))

  pub extended : Extended list n survey result slice index caller words cut_values
  extended = record {
    values = all;
    are = run;
    same = same result is.result_needed;
    kept = list_kept list slice.list.list.items is.cuts.count
        (λ j op cut here there. (j, is.cuts.each j op cut here there)) words;
  }
