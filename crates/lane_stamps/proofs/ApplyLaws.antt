-- What lanes leave at one site, one lane further.
use Rattle.std.proofs.Common.{◌≡◌, ℕ, zero, suc, ◌+◌, ◌<◌, Bool, true, false, List, length, drop, set}
use Rattle.std.proofs.Common.{slice_index, slice_index_or, refl, sym, ◌∙◌, ap, arith}
use Rattle.std.specs.Prelude.{Option, Some, None, if◌then◌else◌}
use Rattle.std.proofs.lemmas.List.{drop_more, get_or-set_same, set-get_or, set-set}
use Rattle.array_maps.specs.{declared.access.Half.{Half}, Accesses.{left_by}}
use Rattle.loop_core_model.specs.Effects.{Deed, Effect, action_on, words_after_any_effect, words_after_effect}
use Rattle.loop_core_model.specs.Effects.{words_after_lane_effects, words_after_site_effects}
use Rattle.lane_rows.specs.{declared.{line.Line.{Line}, mask.Mask.{Mask}, places.Places.{Places}}, Lanes.{HasWords}}
use Rattle.lane_rows.specs.{declared.row.Row.{Row}, Rows.{is_in, line_word, place_at, word_at, word_by}}
use Rattle.lane_stamps.specs.declared.{kind.Kind.{Kind, TheVariants.{Apply}}, site.Site.{Site}}
use Rattle.lane_stamps.specs.declared.kind.Kind.TheVariants.{Load, LoadHalf, Store, Fetch, Replace, FetchHalf, AddHalf}
use Rattle.lane_stamps.specs.{Forms.{IsPlace, RunsFrom}, Sites.{is_of_halves, log_of}}
use Rattle.lane_stamps.specs.Sites.{LaneRows, deed_by, effect_at, effect_by, effect_if, element_named, half_named}

lane_more : (site : ℕ → Option Effect) (lane : ℕ) (words : List ℕ) → words_after_lane_effects site (lane + 1) words
    ≡ words_after_any_effect (site lane) (words_after_lane_effects site lane words)
lane_more site lane words =
    let next : lane + 1 ≡ suc lane = omega arith in
    ap (λ (n : ℕ). words_after_lane_effects site n words) next

-- what isn't of halves doesn't say which
same_deed : (kind : Kind) (half other : Half) (value : ℕ) → (is_of_halves kind ≡ true → half ≡ other)
    → deed_by kind half value ≡ deed_by kind other value
same_deed Load half other value same = refl
same_deed LoadHalf half other value same = ap (λ (h : Half). deed_by LoadHalf h value) (same refl)
same_deed Store half other value same = refl
same_deed Fetch half other value same = refl
same_deed Replace half other value same = ap (λ (h : Half). deed_by Replace h value) (same refl)
same_deed FetchHalf half other value same = ap (λ (h : Half). deed_by FetchHalf h value) (same refl)
same_deed AddHalf half other value same = ap (λ (h : Half). deed_by AddHalf h value) (same refl)
same_deed (Apply op) half other value same = refl

-- what is left of the word of an element by a deed
abbrev pub changed : Deed → (at : ℕ) → List ℕ → List ℕ
changed deed at words = set words at (left_by (action_on deed (slice_index words at)) (slice_index words at))

module _ (kind : Kind) (mask : Mask) (places : Places) where
  -- lanes that have the same values leave the same
  pub same_values : (values others : ℕ → ℕ) (count : ℕ) → ((lane : ℕ) → lane < count → values lane ≡ others lane)
      → (words : List ℕ) → words_after_lane_effects (effect_if kind mask places values) count words
      ≡ words_after_lane_effects (effect_if kind mask places others) count words
  same_values values others zero same words = refl
  same_values values others (suc count) same words =
      ap (words_after_any_effect (effect_if kind mask places values count))
      (same_values values others count (λ lane less. same lane (omega (arith, less))) words)
      ∙ ap (λ (value : ℕ). words_after_any_effect
      (if is_in mask count then Some (effect_by kind (place_at places count) value) else None)
      (words_after_lane_effects (effect_if kind mask places others) count words)) (same count (omega arith))

  -- the words of a line, spelled, are those of its row
  pub line_values : (row : Row) (line : Line) (spelled : List ℕ) (count : ℕ) (words : List ℕ) → row.line ≡ Some line
      → HasWords count (line_word line) spelled
      → words_after_lane_effects (effect_if kind mask places (slice_index spelled)) count words
      ≡ words_after_lane_effects (effect_if kind mask places (word_at row)) count words
  line_values row line spelled count words is written = same_values (slice_index spelled) (word_at row) count
      (λ lane less. written lane less ∙ sym (ap (λ (by : Option Line). word_by by row.lanes lane) is)) words

  module _ (values : ℕ → ℕ) where
    -- at one place
    at_one : (place at lane word : ℕ) (words : List ℕ) (there : Bool) → at < length words
        → element_named (is_of_halves kind) place ≡ at → place_at places lane ≡ place →
        words_after_any_effect (if there then Some (effect_by kind (place_at places lane) (values lane)) else None)
        (set words at word)
        ≡ set words at
        (if there then left_by (action_on (deed_by kind (half_named place) (values lane)) word) word else word)
    at_one place at lane word words false inside is same = refl
    at_one place at lane word words true inside is same =
        let deed : Deed = deed_by kind (half_named place) (values lane) in
        ap (λ (p : ℕ). words_after_effect (effect_by kind p (values lane)) (set words at word)) same
        ∙ ap (λ (e : ℕ). changed deed e (set words at word)) is
        ∙ ap (λ (w : ℕ). set (set words at word) at (left_by (action_on deed w) w))
        (get_or-set_same words at word 0 inside)
        ∙ set-set words at word (left_by (action_on deed word) word)

    pub one_more : (place at lane count word left : ℕ) (words : List ℕ) → at < length words
        → element_named (is_of_halves kind) place ≡ at → IsPlace place places count → lane < count
        → left ≡ (if is_in mask lane
        then left_by (action_on (deed_by kind (half_named place) (values lane)) word) word else word)
        → set words at word ≡ words_after_lane_effects (effect_if kind mask places values) lane words
        → set words at left ≡ words_after_lane_effects (effect_if kind mask places values) (lane + 1) words
    one_more place at lane count word left words inside is one less is_left so_far =
        ap (set words at) is_left ∙ sym (at_one place at lane word words (is_in mask lane) inside is (one lane less))
        ∙ ap (words_after_any_effect (effect_if kind mask places values lane)) so_far
        ∙ sym (lane_more (effect_if kind mask places values) lane words)

    -- along a run
    along : (first at lane : ℕ) (words : List ℕ) (there : Bool)
        → element_named (is_of_halves kind) (place_at places lane) ≡ at
        → (is_of_halves kind ≡ true → half_named (place_at places lane) ≡ half_named first) → set words at
        (if there then left_by (action_on (deed_by kind (half_named first) (values lane)) (slice_index words at))
        (slice_index words at) else slice_index words at)
        ≡ words_after_any_effect (if there then Some (effect_by kind (place_at places lane) (values lane)) else None)
        words
    along first at lane words false is half = set-get_or words at 0
    along first at lane words true is half =
        ap (λ (deed : Deed). changed deed at words)
        (sym (same_deed kind (half_named (place_at places lane)) (half_named first) (values lane) half))
        ∙ ap (λ (e : ℕ). changed (deed_by kind (half_named (place_at places lane)) (values lane)) e words) (sym is)

    pub run_more : (first at lane count left : ℕ) (start words : List ℕ)
        → element_named (is_of_halves kind) first + lane ≡ at → RunsFrom (is_of_halves kind) first places count
        → lane < count
        → left ≡ (if is_in mask lane
        then left_by (action_on (deed_by kind (half_named first) (values lane)) (slice_index words at))
        (slice_index words at) else slice_index words at)
        → words ≡ words_after_lane_effects (effect_if kind mask places values) lane start
        → set words at left ≡ words_after_lane_effects (effect_if kind mask places values) (lane + 1) start
    run_more first at lane count left start words is runs less is_left so_far =
        ap (set words at) is_left
        ∙ along first at lane words (is_in mask lane) (runs.element lane less ∙ is) (runs.half lane less)
        ∙ ap (words_after_any_effect (effect_if kind mask places values lane)) so_far
        ∙ sym (lane_more (effect_if kind mask places values) lane start)

-- one site more
pub site_applied : (sites : List Site) (lanes : LaneRows) (k count : ℕ) (words new : List ℕ) (e : Site)
    → k < length sites → new ≡ words_after_lane_effects (effect_at lanes (slice_index_or sites k e)) count words
    → words_after_site_effects (log_of (drop (k + 1) sites) lanes) count new
    ≡ words_after_site_effects (log_of (drop k sites) lanes) count words
site_applied sites lanes k count words new e inside is =
    ap (words_after_site_effects (log_of (drop (k + 1) sites) lanes) count) is
    ∙ sym (ap (λ (rest : List Site). words_after_site_effects (log_of rest lanes) count words)
    (drop_more sites k e inside))
