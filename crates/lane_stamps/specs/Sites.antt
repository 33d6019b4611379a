-- What the lanes of a batch do at its sites.
use Rattle.std.specs.Prelude.{◌≡◌, ℕ, ◌/◌, ◌%◌, ◌<◌, ◌==◌, Bool, true, false, List, [], map, length, slice_index_or}
use Rattle.std.specs.Prelude.{Option, Some, None, if◌then◌else◌}
use Rattle.array_maps.specs.declared.access.{Half.{Half, TheVariants.{Low, High}}, Part.TheVariants.{Whole, Half as Of}}
use Rattle.array_maps.specs.{declared.access.Op.TheVariants.{AddH}, Halves.{half_of, with_half}}
use Rattle.loop_core_model.specs.Effects.{Deed, Load as Loads, Store as Stores, Fetch as Fetches, Replace as Replaces}
use Rattle.loop_core_model.specs.Effects.{Apply as Applies, Effect, EffectLog}
use Rattle.lane_rows.specs.declared.{mask.Mask.{Mask}, places.Places.{Places}, row.Row.{Row}}
use Rattle.lane_rows.specs.Rows.{is_in, place_at, word_at}
use Rattle.lane_stamps.specs.declared.{kind.Kind.{Kind, TheVariants.{Apply}}, site.{Lanes.{Lanes}, Site.{Site}}}
use Rattle.lane_stamps.specs.declared.kind.Kind.TheVariants.{Load, LoadHalf, Store, Fetch, Replace, FetchHalf, AddHalf}

-- lanes go on with what they find
abbrev pub loads : Kind → Bool
loads Load = true
loads LoadHalf = true
loads Store = false
loads Fetch = true
loads Replace = false
loads FetchHalf = true
loads AddHalf = false
loads (Apply op) = false

-- they leave something
abbrev pub leaves : Kind → Bool
leaves Load = false
leaves LoadHalf = false
leaves Store = true
leaves Fetch = true
leaves Replace = true
leaves FetchHalf = true
leaves AddHalf = true
leaves (Apply op) = true

-- places are halves
abbrev pub is_of_halves : Kind → Bool
is_of_halves Load = false
is_of_halves LoadHalf = true
is_of_halves Store = false
is_of_halves Fetch = false
is_of_halves Replace = true
is_of_halves FetchHalf = true
is_of_halves AddHalf = true
is_of_halves (Apply op) = false

-- the half that a place is
abbrev pub half_named : (place : ℕ) → Half
half_named place = if place % 2 == 0 then Low else High

-- the element that it is, or is a half of
abbrev pub element_named : (halves : Bool) (place : ℕ) → ℕ
element_named halves place = if halves then place / 2 else place

-- what is done with a value: at a half its lower half counts
abbrev pub deed_by : Kind → Half → (value : ℕ) → Deed
deed_by Load half value = Loads Whole
deed_by LoadHalf half value = Loads (Of half)
deed_by Store half value = Stores value
deed_by Fetch half value = Fetches value
deed_by Replace half value = Replaces half (half_of Low value) false
deed_by FetchHalf half value = Replaces half (half_of Low value) true
deed_by AddHalf half value = Applies AddH (with_half half 0 value)
deed_by (Apply op) half value = Applies op value

-- what is done at a place with a value
abbrev pub effect_by : Kind → (place value : ℕ) → Effect
effect_by kind place value = record {
  element = element_named (is_of_halves kind) place;
  deed = deed_by kind (half_named place) value;
}

-- what a lane does, if it is in a mask
abbrev pub effect_if : Kind → Mask → Places → (values : ℕ → ℕ) → (lane : ℕ) → Option Effect
effect_if kind mask places values lane =
    if is_in mask lane then Some (effect_by kind (place_at places lane) (values lane)) else None

-- the rows that a batch has
pub record LaneRows : Type 0 where
  pub rows : List Row
  pub masks : List Mask
  pub places : List Places

abbrev pub shown : Lanes → LaneRows
shown lanes = record { rows = lanes.rows.now; masks = lanes.masks.now; places = lanes.places.now }

-- those of a site, by their numbers
abbrev pub mask_of : LaneRows → Site → Mask
mask_of lanes site = slice_index_or lanes.masks site.mask (record { all = false; lanes = [] })

abbrev pub places_of : LaneRows → Site → Places
places_of lanes site = slice_index_or lanes.places site.places (record { line = None; lanes = [] })

abbrev pub values_of : LaneRows → Site → Row
values_of lanes site = slice_index_or lanes.rows site.value (record { line = None; lanes = [] })

-- a lane gets to a site; its place there, and its value
abbrev pub has : LaneRows → Site → (lane : ℕ) → Bool
has lanes site lane = is_in (mask_of lanes site) lane

abbrev pub place_of : LaneRows → Site → (lane : ℕ) → ℕ
place_of lanes site lane = place_at (places_of lanes site) lane

abbrev pub value_of : LaneRows → Site → (lane : ℕ) → ℕ
value_of lanes site lane = word_at (values_of lanes site) lane

-- what a lane does at a site, and whether it gets there
abbrev pub done_by : LaneRows → Site → (lane : ℕ) → Effect
done_by lanes site lane = effect_by site.kind (place_of lanes site lane) (value_of lanes site lane)

abbrev pub effect_at : LaneRows → Site → (lane : ℕ) → Option Effect
effect_at lanes site = effect_if site.kind (mask_of lanes site) (places_of lanes site) (value_of lanes site)

-- what the lanes do, site by site
abbrev pub log_of : List Site → LaneRows → EffectLog
log_of sites lanes = map (effect_at lanes) sites

-- the rows of a site are there
pub record HasRows (lanes : LaneRows) (site : Site) : Type 0 where
  pub mask : site.mask < length lanes.masks
  pub places : site.places < length lanes.places
  pub value : leaves site.kind ≡ true → site.value < length lanes.rows

-- a half is one of those of a place
abbrev pub Covers : (halves : Bool) (place half : ℕ) → Type 0
Covers true place half = half ≡ place
Covers false place half = half / 2 ≡ place

-- a lane of a mask has a half at its place
abbrev pub Reaches : (halves : Bool) → Mask → Places → (lane half : ℕ) → Type 0
Reaches halves mask places lane half = (is_in mask lane ≡ true) × Covers halves (place_at places lane) half

-- a lane accesses a half at a site
abbrev pub Touches : LaneRows → Site → (lane half : ℕ) → Type 0
Touches lanes site lane half = Reaches (is_of_halves site.kind) (mask_of lanes site) (places_of lanes site) lane half

-- the element of a lane of a mask is below a number
abbrev pub LiesBelow : (count : ℕ) (halves : Bool) → Mask → Places → (lane : ℕ) → Type 0
LiesBelow count halves mask places lane = is_in mask lane ≡ true → element_named halves (place_at places lane) < count

-- the elements that lanes access at a site are below a number
abbrev pub IsWithin : (count lanes : ℕ) → LaneRows → Site → Type 0
IsWithin count lanes of_lanes site = (lane : ℕ) → lane < lanes
    → LiesBelow count (is_of_halves site.kind) (mask_of of_lanes site) (places_of of_lanes site) lane

-- a site with a rank
abbrev pub ranked_as : (rank : ℕ) → Site → Site
ranked_as rank site = record site { rank = rank }

-- sites, but for their ranks
abbrev pub unranked : List Site → List Site
unranked sites = map (ranked_as 0) sites
