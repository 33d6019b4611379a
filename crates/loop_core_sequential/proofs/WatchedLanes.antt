-- The lanes of a batch of a watched loop.
use Rattle.std.proofs.Common.{◌≡◌, ℕ, suc, ◌+◌, ◌-◌, ◌*◌, ◌<◌, ◌==◌, ◌&&◌, inl, inr, Bool, true, false, List}
use Rattle.std.proofs.Common.{[], ◌∷◌, length, slice_index, slice_index_or, refl, sym, ap, ◌∙◌, eqb-true, arith}
use Rattle.std.specs.List.{All, AllByRecursion, list_any}
use Rattle.std.proofs.lemmas.Bool.{and_from, and_parts, both_ways, cases_Bool, eq-eqb}
use Rattle.std.proofs.lemmas.List.{Elements.{recursion_from_All}, Folds.{Any-from_list_any, list_any_at}}
use Rattle.array_maps.specs.{Accesses.{Access, actions_at}, MapList.{MapList, AreWords}}
use Rattle.bpf_insn_types.specs.Program.{Program}
use Rattle.bpf_step_model.specs.State.{LoopCall}
use Rattle.loop_core_model.specs.{Actions.{is_plain_write, is_write, writes, exposed}, Kinds.{kind_leaves}}
use Rattle.loop_core_model.specs.Effects.{Effect, SameIfLoaded, accesses_on, action_on, effects_of, kind_of_deed}
use Rattle.loop_core_model.specs.Effects.{words_after_each_lane, words_after_effect}
use Rattle.loop_core_model.proofs.Sparing.{LeavesAlone, before_lane, length-before}
use Rattle.lane_stamps.specs.declared.{kind.Kind.{Kind, TheVariants.{Load, Store, Fetch}}, site.Site.{Site}}
use Rattle.lane_stamps.specs.Sites.{Covers, LaneRows, done_by, effect_by, element_named, has, is_of_halves, leaves}
use Rattle.lane_stamps.specs.Sites.{Touches, loads, log_of, place_of, value_of}
use Rattle.loop_core_undo.specs.{declared.undo_log.UndoLog.{UndoLog}, Undo.{WordsBeforeAreKept, is_written}}
use Rattle.loop_core_sequential.specs.{Lanes.{LanesGoOn, LoadsNoneLeft}, Rests.{RanOn}}
use Rattle.loop_core_sequential.specs.{Noting.{GoesWatched, IsLeft, NotesWrites}, Watched.{IsNoted, IsUnread, is_whole}}
use Rattle.loop_core_sequential.proofs.WatchedLaws.{more_watched, on_start}

-- what is so of what a lane does at each site is so of all that it does
effects_all : (P : Effect → Type 0) (sites : List Site) (rows : LaneRows) (lane : ℕ)
    → All (λ site. has rows site lane ≡ true → P (done_by rows site lane)) sites
    → AllByRecursion P (effects_of (log_of sites rows) lane)
effects_all P [] rows lane all = tt
effects_all P (site ∷ sites) rows lane all =
    let rest = effects_all P sites rows lane (λ k d less. all (suc k) d (omega arith)) in
    elim (cases_Bool (has rows site lane)) [
      | inl there ↦ rw there (all 0 site (omega arith) there, rest)
      | inr none ↦ rw none rest
    ]

-- no read of an element is exposed, where each effect there is a plain write
effects_unread : (effects : List Effect) (words : List ℕ) (e : ℕ)
    → AllByRecursion (λ effect. effect.element ≡ e → (word : ℕ)
    → is_plain_write (action_on effect.deed word) ≡ true) effects
    → exposed (actions_at e (accesses_on words effects)) ≡ false
effects_unread [] words e all = refl
effects_unread (effect ∷ effects) words e all = elim (cases_Bool (effect.element == e)) [
  | inl here ↦ rw (here, all.0 (eqb-true effect.element e here) (slice_index words effect.element)) refl
  | inr other ↦ rw other (effects_unread effects (words_after_effect effect words) e all.1)
]

-- what kinds of sites do
kind_left : (kind : Kind) (place value : ℕ) → kind_leaves (kind_of_deed (effect_by kind place value).deed) ≡ leaves kind
kind_left Load place value = refl
kind_left _ place value = refl

kind_writes : (kind : Kind) (place value word : ℕ) → is_write (action_on (effect_by kind place value).deed word)
    ≡ leaves kind
kind_writes Load place value word = refl
kind_writes _ place value word = refl

kind_plain : (kind : Kind) (place value word : ℕ) → is_whole kind ≡ true → loads kind ≡ false
    → is_plain_write (action_on (effect_by kind place value).deed word) ≡ true
kind_plain Store place value word whole none = refl
kind_plain _ place value word whole none = absurd (cc)

whole_left : (kind : Kind) → is_whole kind ≡ true → leaves kind ≡ true → is_of_halves kind ≡ false
whole_left Store whole left = refl
whole_left Fetch whole left = refl
whole_left _ whole left = absurd (cc)

-- a lane leaves a word at an element, at a site
abbrev leaves_at : LaneRows → (lane e : ℕ) → Site → Bool
leaves_at rows lane e site = has rows site lane
    && ((element_named (is_of_halves site.kind) (place_of rows site lane) == e) && leaves site.kind)

-- it writes what it leaves a word at
writes_are : (sites : List Site) (rows : LaneRows) (lane e : ℕ) (words : List ℕ)
    → writes (actions_at e (accesses_on words (effects_of (log_of sites rows) lane)))
    ≡ list_any (leaves_at rows lane e) sites
writes_are [] rows lane e words = refl
writes_are (site ∷ sites) rows lane e words =
    let later = writes_are sites rows lane e (words_after_effect (done_by rows site lane) words) in
    let x : ℕ = element_named (is_of_halves site.kind) (place_of rows site lane) in
    elim (cases_Bool (has rows site lane)) [
      | inl there ↦ rw there (elim (cases_Bool (x == e)) [
        | inl here ↦ rw (
          here,
          later,
          kind_writes site.kind (place_of rows site lane) (value_of rows site lane)
              (slice_index words x),
        ) refl
        | inr other ↦ rw (other, later) refl
      ])
      | inr none ↦ rw (none, writes_are sites rows lane e words) refl
    ]

-- places of one element share a half, where the other is of whole words
share_half : (halves : Bool) (place other : ℕ) → other ≡ element_named halves place
    → (half : ℕ) × Covers halves place half × Covers false other half
share_half true place other same = (place, refl, sym same)
share_half false place other same = let is : other ≡ place = same in (2 * place, omega arith, omega arith)

module _ (sites : List Site) (rows : LaneRows) (lanes : ℕ) (words : List ℕ) where
  -- what a lane accesses
  abbrev accesses : ℕ → List Access
  accesses lane = accesses_on words (effects_of (log_of sites rows) lane)

  -- one of the sites is so, and a lane leaves a word at an element there
  record LeftAt (P : Site → Type 0) (lane e : ℕ) : Type 0 where
    site : Site
    is : P site
    there : has rows site lane ≡ true
    same : element_named (is_of_halves site.kind) (place_of rows site lane) ≡ e
    left : leaves site.kind ≡ true

  left_at : (P : Site → Type 0) → All P sites → (lane e : ℕ) → writes (actions_at e (accesses lane)) ≡ true
      → LeftAt P lane e
  left_at P all lane e wrote =
      let found = Any-from_list_any (leaves_at rows lane e) sites (sym (writes_are sites rows lane e words) ∙ wrote) in
      let parts = and_parts (has rows found.1 lane) _ found.4 in
      let here = and_parts (element_named (is_of_halves found.1.kind) (place_of rows found.1 lane) == e) _ parts.1 in
      record {
        site = found.1;
        is = rw found.3 at (all found.0 found.1 found.2);
        there = parts.0;
        same = eqb-true _ e here.0;
        left = here.1;
      }

  -- what they leave is noted as written
  lane_noted : (written : ℕ → Bool) → All (IsNoted written lanes rows) sites → (lane e : ℕ) → lane < lanes
      → writes (actions_at e (accesses lane)) ≡ true → written e ≡ true
  lane_noted written noted lane e inside wrote =
      let at = left_at (IsNoted written lanes rows) noted lane e wrote in
      ap written (sym at.same) ∙ at.is at.left lane inside at.there

  -- and what is left at a site is written by a lane
  lane_left : (e : ℕ) → IsLeft lanes rows sites e
      → (lane : ℕ) × (lane < lanes) × (writes (actions_at e (accesses lane)) ≡ true)
  lane_left e left =
      let d : Site = record { kind = Load; rank = 0; watched = false; mask = 0; places = 0; value = 0 } in
      let found = left.has d in (
        found.lane,
        found.below,
        writes_are sites rows found.lane e words ∙ list_any_at (leaves_at rows found.lane e) sites left.k d left.below
            (and_from _ _ found.made (and_from _ _ (eq-eqb _ e found.at) (left.leaves_it d))),
      )

  module _ (written : ℕ → Bool) (unread : All (IsUnread written lanes rows) sites) where
    -- no lane reads a noted element, where none loads one
    lane_unread : (noted : ℕ → Bool) (lane e : ℕ) → lane < lanes → noted e ≡ true
        → All (λ site. has rows site lane ≡ true → loads site.kind ≡ true
        → noted (element_named (is_of_halves site.kind) (place_of rows site lane)) ≡ false) sites
        → exposed (actions_at e (accesses lane)) ≡ false
    lane_unread noted lane e inside was none = effects_unread (effects_of (log_of sites rows) lane) words e
        (effects_all _ sites rows lane (λ k d less there same word.
        let site : Site = slice_index_or sites k d in
        kind_plain site.kind (place_of rows site lane) (value_of rows site lane) word
        ((unread k d less).whole lane inside there)
        (elim (cases_Bool (loads site.kind)) [
          | inl load ↦ absurd (both_ways (noted e) (ap noted (sym same) ∙ none k d less there load) was)
          | inr nothing ↦ nothing
        ])))

    -- nor one that an earlier one writes
    among : LoadsNoneLeft sites rows lanes → (e earlier later : ℕ) → earlier < later → later < lanes
        → writes (actions_at e (accesses earlier)) ≡ true → exposed (actions_at e (accesses later)) ≡ false
    among apart e earlier later before inside wrote =
        lane_unread (λ x. writes (actions_at x (accesses earlier))) later e inside wrote (λ k d less there load.
        let at : Site = slice_index_or sites k d in
        let x : ℕ = element_named (is_of_halves at.kind) (place_of rows at later) in
        elim (cases_Bool (writes (actions_at x (accesses earlier)))) [
          | inl left ↦
              let by = left_at (λ by. IsUnread written lanes rows by × (loads at.kind ≡ true → leaves by.kind ≡ true
              → (half : ℕ) → Touches rows at later half → Touches rows by earlier half → ⊥))
              (λ j d' fewer. (unread j d' fewer, apart later earlier before inside k d less j d' fewer)) earlier x
              left in
              let halves = whole_left by.site.kind (by.is.0.whole earlier (omega arith) by.there) by.left in
              let shared = share_half (is_of_halves at.kind) (place_of rows at later) (place_of rows by.site earlier)
              (rw halves at by.same) in
              absurd (by.is.1 load by.left shared.0 (there, shared.1) (by.there, rw halves shared.2))
          | inr nothing ↦ nothing
        ])

-- a batch more, at the sites of which nothing is read that is noted as written, and what is left is noted then
pub goes_on_watched : WordsBeforeAreKept → (program : Program) (call : LoopCall) (index : ℕ) (start now new : MapList)
    (old last : UndoLog) (sites : List Site) (rows : LaneRows) (lanes : ℕ)
    → GoesWatched program call index start now old → AreWords now.words
    → LanesGoOn program call index lanes now.words (log_of sites rows) → LoadsNoneLeft sites rows lanes
    → All (IsUnread (is_written old) lanes rows) sites → NotesWrites lanes rows sites now.words old last
    → RanOn program call index (index + lanes) now new
    → new.words ≡ words_after_each_lane (log_of sites rows) lanes now.words
    → GoesWatched program call (index + lanes) start new last
goes_on_watched law program call index start now new old last sites rows lanes goes fit go_on apart unread notes went
    applied = record {
      watched = more_watched goes.watched (index + lanes) (λ i. made (i - index))
          (λ e earlier later low order high wrote. among sites rows lanes now.words (is_written old) unread apart e
          (earlier - index) (later - index) (omega arith) (omega arith) wrote)
          (λ e i inside low high. none_read (i - index) e (omega arith)) new (is_written last)
          (λ i low high.
          let same : index + (i - index) ≡ i = omega arith in
          on_start goes.watched i (made (i - index)) (rw same at (go_on (i - index) (omega arith) now.words fit
          (record {
            count = refl;
            loads = recursion_from_All (SameIfLoaded now.words now.words) (effects_of (log_of sites rows) (i - index))
                (λ k d less load. refl);
          })).ends) (λ e inside. none_read (i - index) e (omega arith)))
          went (ap length applied ∙ length-before (log_of sites rows) now.words lanes) (λ e inside. kept e)
          (λ e inside. notes.grows.written e (rw goes.restores.elements inside))
          (λ i e low high inside. lane_noted sites rows lanes now.words (is_written last) notes.noted (i - index) e
          (omega arith))
          (λ e inside was. elim (notes.only e (rw goes.restores.elements inside) was) [
            | inl before ↦ inl before
            | inr left ↦
                let by = lane_left sites rows lanes now.words e left in
                let lane : index + by.0 - index ≡ by.0 = omega arith in
                inr (record { i = index + by.0; low = omega arith; below = omega (arith, by.1); wrote = rw lane by.2 })
          ]);
      restores = record {
        sizes = went.sizes ∙ goes.restores.sizes;
        count = ap length applied ∙ length-before (log_of sites rows) now.words lanes ∙ goes.restores.count;
        elements = notes.grows.count ∙ goes.restores.elements;
        before = λ e inside.
            law last now.words new.words kept e
            ∙ notes.grows.before e (rw goes.restores.elements inside) ∙ goes.restores.before e inside;
      };
    }
  where
    made : ℕ → List Access
    made = accesses sites rows lanes now.words

    none_read : (lane e : ℕ) → lane < lanes → is_written old e ≡ true → exposed (actions_at e (made lane)) ≡ false
    none_read lane e inside was = lane_unread sites rows lanes now.words (is_written old) unread (is_written old) lane e
        inside was (λ k d less there load. (unread k d less).unread load lane inside there)

    -- an element is as it was that isn't noted as written then
    kept : (e : ℕ) → is_written last e ≡ false → slice_index new.words e ≡ slice_index now.words e
    kept e off = ap (λ (words : List ℕ). slice_index words e) applied
        ∙ before_lane (log_of sites rows) now.words lanes e (λ lane below.
        effects_all (LeavesAlone e) sites rows lane (λ k d less there left same.
        let site : Site = slice_index_or sites k d in
        both_ways (is_written last e) off (ap (is_written last) (sym same)
        ∙ notes.noted k d less (sym (kind_left site.kind (place_of rows site lane) (value_of rows site lane)) ∙ left)
        lane below there)))
