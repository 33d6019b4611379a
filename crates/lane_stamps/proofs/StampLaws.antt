-- Lanes that meet no earlier one may go together.
use Rattle.std.proofs.Common.{◌≡◌, ℕ, ◌<◌, ◌≤◌, Bool, true, false, inl, inr, List, [], ◌∷◌, length, slice_index}
use Rattle.std.{proofs.Common.{slice_index_or, refl, sym, ◌∙◌, ap, arith, suc}, specs.List.{AllByRecursion, AllPairs}}
use Rattle.std.{specs.Prelude.{Option, Some, None, IfSome, if◌then◌else◌}, proofs.lemmas.Bool.{cases_eq}}
use Rattle.std.proofs.lemmas.List.Elements.{recursion_from_All}
use Rattle.array_maps.specs.{MapList.{AreWords}, declared.access.Half.{Half}}
use Rattle.loop_core_model.specs.{Kept.{OperatorsAssociate}, Kinds.{by_one_operator, kind_leaves}}
use Rattle.loop_core_model.specs.Effects.{Deed, Effect, deed_loads, deed_part, effects_of, kind_of_deed, SameIfLoaded}
use Rattle.loop_core_model.specs.Effects.{with_effect, words_after_each_lane}
use Rattle.loop_core_model.proofs.Sparing.{Spares, alone_spares, spared_before, fits_for, word_fits, length-before}
use Rattle.loop_core_model.proofs.EffectLaws.{Exchange, GoesFirst, EachGoesFirst, site_by_site, operators_exchange}
use Rattle.loop_core_model.proofs.EffectLaws.{first_keeps, second_keeps}
use Rattle.lane_stamps.specs.declared.{kind.Kind.{Kind, TheVariants.{Apply}}, site.Site.{Site}}
use Rattle.lane_stamps.specs.declared.kind.Kind.TheVariants.{Load, LoadHalf, Store, Fetch, Replace, FetchHalf, AddHalf}
use Rattle.lane_stamps.specs.Sites.{LaneRows, deed_by, done_by, effect_at, half_named, has, leaves, loads, log_of}
use Rattle.lane_stamps.{specs.Sites.{place_of, value_of}, proofs.HalfLaws.{apart_spares, apart_places}}
use Rattle.lane_stamps.specs.Stamps.{AreRanked, GoTogether, NoneMeets, Unmet, allowed, kind_by, reduce_alike}

-- a deed does what its kind says
record DoesAs (kind : Kind) (deed : Deed) : Type 0 where
  load : deed_loads deed ≡ loads kind
  leave : kind_leaves (kind_of_deed deed) ≡ leaves kind
  alike : kind_of_deed deed ≡ kind_by kind

does_as : (kind : Kind) (half : Half) (value : ℕ) → DoesAs kind (deed_by kind half value)
does_as Load half value = record { load = refl; leave = refl; alike = refl }
does_as LoadHalf half value = record { load = refl; leave = refl; alike = refl }
does_as Store half value = record { load = refl; leave = refl; alike = refl }
does_as Fetch half value = record { load = refl; leave = refl; alike = refl }
does_as Replace half value = record { load = refl; leave = refl; alike = refl }
does_as FetchHalf half value = record { load = refl; leave = refl; alike = refl }
does_as AddHalf half value = record { load = refl; leave = refl; alike = refl }
does_as (Apply op) half value = record { load = refl; leave = refl; alike = refl }

site_does : (lanes : LaneRows) (site : Site) (lane : ℕ) → DoesAs site.kind (done_by lanes site lane).deed
site_does lanes site lane = does_as site.kind (half_named (place_of lanes site lane)) (value_of lanes site lane)

pub site_leaves : (lanes : LaneRows) (site : Site) (lane : ℕ)
    → kind_leaves (kind_of_deed (done_by lanes site lane).deed) ≡ leaves site.kind
site_leaves lanes site lane = (site_does lanes site lane).leave

-- what is so of an effect that is there
if_there : (there : Bool) (effect : Effect) (P : Effect → Type 0) → (there ≡ true → P effect)
    → IfSome (if there then Some effect else None) P
if_there false effect P one = tt
if_there true effect P one = one refl

all_with : (P : Effect → Type 0) (there : Bool) (effect : Effect) (rest : List Effect) → (there ≡ true → P effect)
    → AllByRecursion P rest → AllByRecursion P (with_effect (if there then Some effect else None) rest)
all_with P false effect rest one all = all
all_with P true effect rest one all = (one refl, all)

effects_all : (lanes : LaneRows) (P : Effect → Type 0) (sites : List Site) (lane : ℕ)
    → AllByRecursion (λ site. has lanes site lane ≡ true → P (done_by lanes site lane)) sites
    → AllByRecursion P (effects_of (log_of sites lanes) lane)
effects_all lanes P [] lane all = tt
effects_all lanes P (site ∷ sites) lane all =
    all_with P (has lanes site lane) (done_by lanes site lane) (effects_of (log_of sites lanes) lane) all.0
    (effects_all lanes P sites lane all.1)

-- an earlier lane spares what a later one loads
one_spares : (lanes : LaneRows) (at by : Site) (later earlier : ℕ) → Unmet lanes later earlier at by
    → (leaves by.kind ≡ true → 0 < by.rank)
    → has lanes at later ≡ true → has lanes by earlier ≡ true → loads at.kind ≡ true
    → Spares (done_by lanes at later).element (deed_part (done_by lanes at later).deed) (done_by lanes by earlier)
one_spares lanes at by later earlier unmet some here there load = go (leaves by.kind) refl
  where
    go : (left : Bool) → leaves by.kind ≡ left
        → Spares (done_by lanes at later).element (deed_part (done_by lanes at later).deed) (done_by lanes by earlier)
    go true left = apart_spares lanes at by later earlier load left (λ half covers other.
        let most : by.rank ≤ allowed at = unmet left half (here, covers) (there, other) in
        let none : allowed at ≡ 0 = ap (λ (b : Bool). if b then 0 else at.rank) load in
        let never : ⊥ = omega (arith, most, none, some left) in never)
    go false none = alone_spares (done_by lanes by earlier) (done_by lanes at later).element
        (deed_part (done_by lanes at later).deed) (λ left same.
        let kept = site_leaves lanes by earlier in let never : ⊥ = cc in absurd never)

allowed_rank : (site : Site) → allowed site ≤ site.rank
allowed_rank site = go (loads site.kind)
  where
    go : (load : Bool) → (if load then 0 else site.rank) ≤ site.rank
    go true = omega arith
    go false = omega arith

-- what lanes do at two sites may change places, where the later one does it at the first
one_exchange : OperatorsAssociate → (lanes : LaneRows) (at by : Site) (later earlier : ℕ)
    → Unmet lanes later earlier at by
    → (leaves at.kind ≡ true → leaves by.kind ≡ true → at.rank ≤ by.rank)
    → (leaves at.kind ≡ true → leaves by.kind ≡ true → at.rank ≡ by.rank → reduce_alike at.kind by.kind ≡ true)
    → has lanes at later ≡ true → has lanes by earlier ≡ true
    → Exchange (done_by lanes at later) (done_by lanes by earlier)
one_exchange laws lanes at by later earlier unmet rise alike here there = go (leaves at.kind) (leaves by.kind) refl refl
  where
    go : (one two : Bool) → leaves at.kind ≡ one → leaves by.kind ≡ two
        → Exchange (done_by lanes at later) (done_by lanes by earlier)
    go false two one_is two_is =
        first_keeps (done_by lanes at later) (done_by lanes by earlier) (site_leaves lanes at later ∙ one_is)
    go true false one_is two_is =
        second_keeps (done_by lanes at later) (done_by lanes by earlier) (site_leaves lanes by earlier ∙ two_is)
    go true true one_is two_is = elim (cases_eq at.rank by.rank) [
      | inl same ↦ operators_exchange laws (done_by lanes at later).deed (done_by lanes by earlier).deed
          (done_by lanes at later).element (done_by lanes by earlier).element
          (ap (by_one_operator (kind_of_deed (done_by lanes at later).deed)) (site_does lanes by earlier).alike
          ∙ ap (λ kind. by_one_operator kind (kind_by by.kind)) (site_does lanes at later).alike
          ∙ alike one_is two_is same)
      | inr other ↦ apart_places laws lanes at by later earlier one_is two_is (λ half covers other_covers.
          let most : by.rank ≤ allowed at = unmet two_is half (here, covers) (there, other_covers) in
          let never : ⊥ = omega (arith, most, allowed_rank at, rise one_is two_is, other) in never)
    ]

module _ (laws : OperatorsAssociate) (lanes : LaneRows) (count : ℕ) where
  -- what is so of a site and one after it, so that the first may be applied for all lanes before the second is for any
  abbrev pub InOrder : Site → Site → Type 0
  InOrder first second = (later earlier : ℕ) → earlier < later → later < count → has lanes first later ≡ true
      → has lanes second earlier ≡ true → Exchange (done_by lanes first later) (done_by lanes second earlier)

  all_first : (site : Site) (rest : List Site) → AllByRecursion (InOrder site) rest → (later earlier : ℕ)
      → earlier < later → later < count → has lanes site later ≡ true
      → AllByRecursion (λ (other : ℕ → Option Effect). IfSome (other earlier) (Exchange (done_by lanes site later)))
      (log_of rest lanes)
  all_first site [] all later earlier order within here = tt
  all_first site (other ∷ rest) all later earlier order within here = (
    if_there (has lanes other earlier) (done_by lanes other earlier) (Exchange (done_by lanes site later))
        (λ there. all.0 later earlier order within here there),
    all_first site rest all.1 later earlier order within here,
  )

  goes_first : (site : Site) (rest : List Site) → AllByRecursion (InOrder site) rest
      → GoesFirst (effect_at lanes site) (log_of rest lanes) count
  goes_first site rest all later earlier order within =
      if_there (has lanes site later) (done_by lanes site later)
      (λ effect. AllByRecursion (λ (other : ℕ → Option Effect). IfSome (other earlier) (Exchange effect)) (log_of rest
      lanes))
      (λ here. all_first site rest all later earlier order within here)

  each_first : (sites : List Site) → AllPairs InOrder sites → EachGoesFirst (log_of sites lanes) count
  each_first [] all = tt
  each_first (site ∷ rest) all = (
    goes_first site rest (recursion_from_All (InOrder site) rest
        (λ k d inside. all 0 (suc k) d (omega arith) (omega arith))),
    each_first rest (λ i j d order inside. all (suc i) (suc j) d (omega arith) (omega arith)),
  )

  module _ (sites : List Site) (ranked : AreRanked sites) (unmet : NoneMeets sites lanes count) where
    in_order : AllPairs InOrder sites
    in_order i j d order inside later earlier before within here there =
        one_exchange laws lanes (slice_index_or sites i d) (slice_index_or sites j d) later earlier
        (unmet later earlier before within i d (omega (arith, order, inside)) j d inside)
        (ranked.rise i j d order inside) (ranked.alike i j d order inside) here there

    -- a lane loads the same after those before it
    load_same : (words : List ℕ) → AreWords words → (lane : ℕ) → lane < count → (k : ℕ) (d : Site) → k < length sites
        → has lanes (slice_index_or sites k d) lane ≡ true
        → SameIfLoaded words (words_after_each_lane (log_of sites lanes) lane words) (done_by lanes (slice_index_or
        sites k d) lane)
    load_same words fit lane below k d inside here load =
        let at : Site = slice_index_or sites k d in
        let effect : Effect = done_by lanes at lane in
        let part = deed_part effect.deed in
        (spared_before (log_of sites lanes) words lane effect.element part
        (fits_for part (slice_index words effect.element) (word_fits words effect.element fit))
        (λ earlier before. effects_all lanes (Spares effect.element part) sites earlier
        (recursion_from_All (λ site. has lanes site earlier ≡ true
        → Spares effect.element part (done_by lanes site earlier)) sites
        (λ i e within there. one_spares lanes at (slice_index_or sites i e) lane earlier
        (unmet lane earlier before below k d inside i e within) (ranked.some i e within) here there
        (sym ((site_does lanes at lane).load) ∙ load))))).0

    pub go_together : GoTogether (log_of sites lanes) count
    go_together = record {
      loads = λ words fit lane below. record {
        count = length-before (log_of sites lanes) words lane;
        loads = effects_all lanes (SameIfLoaded words (words_after_each_lane (log_of sites lanes) lane words)) sites
            lane
            (recursion_from_All (λ site. has lanes site lane ≡ true
            → SameIfLoaded words (words_after_each_lane (log_of sites lanes) lane words) (done_by lanes site lane))
            sites
            (load_same words fit lane below));
      };
      in_order = site_by_site (log_of sites lanes) count (each_first sites in_order);
    }
