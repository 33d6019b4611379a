-- Marks of lanes for the flow test, site by site.
use Rattle.std.specs.Prelude.{◌≡◌, ◌≢◌, ℕ, zero, suc, ◌+◌, ◌<◌, ◌≤◌, ◌==◌, ◌&&◌, Bool, true, false, List}
use Rattle.std.specs.Prelude.{length, slice_index, slice_index_or, if◌then◌else◌, min, max, take, drop}
use Rattle.std.specs.List.{list_any}
use Rattle.array_maps.specs.declared.access.Op.{Op}
use Rattle.loop_core_model.specs.declared.access.Access.{Access as AccessKind, TheVariants.{Read, Write, Both, Reduce}}
use Rattle.loop_core_model.specs.{Actions.{is_same}, Planes.{bit_of}}
use Rattle.lane_rows.specs.{declared.{mask.Mask.{Mask}, places.Places.{Places}}, Rows.{is_in, place_at}}
use Rattle.lane_stamps.specs.declared.site.Site.{Site}
use Rattle.lane_stamps.specs.Sites.{LaneRows, LiesBelow, element_named, has, is_of_halves, mask_of, place_of, places_of}
use Rattle.shadow_marks.specs.declared.planes.{Planes.{Planes}, Tested.{Tested}}
use Rattle.shadow_marks.specs.{declared.planes.Tested.TheVariants.{Lrpd as ByLrpd, Flow as ByFlow}, Ending.{KeepsShape}}
use Rattle.shadow_marks.specs.Standing.{plane_by}
use Rattle.loop_marks.specs.declared.by_site.{Elements.{Elements, TheVariants.{One, Run, Any}}, Reached.{Reached}}
use Rattle.loop_marks.specs.{Touches.{Touch}, LaneMarks.{access_kind}}

-- whether an access of a kind writes; looks; is plain; reduces by an operator
abbrev pub kind_writes : AccessKind → Bool
kind_writes Read = false
kind_writes Write = true
kind_writes Both = true
kind_writes (Reduce op) = true

abbrev pub kind_looks : AccessKind → Bool
kind_looks Read = true
kind_looks Write = false
kind_looks Both = true
kind_looks (Reduce op) = true

abbrev pub kind_is_plain : AccessKind → Bool
kind_is_plain Read = true
kind_is_plain Write = true
kind_is_plain Both = true
kind_is_plain (Reduce op) = false

abbrev pub kind_reduces_by : Op → AccessKind → Bool
kind_reduces_by other Read = false
kind_reduces_by other Write = false
kind_reduces_by other Both = false
kind_reduces_by other (Reduce op) = is_same other op

-- an element is touched by an access of which this holds
abbrev pub is_touched_by : (AccessKind → Bool) → (e : ℕ) → List Touch → Bool
is_touched_by holds e touches = list_any (λ touch. (touch.element == e) && holds touch.kind) touches

-- a value after lanes, one after another, of which some change it
abbrev pub over_lanes : {A : Type 0} → (change : A → ℕ → A) → (does : ℕ → Bool) → (lanes : ℕ) → A → A
over_lanes change does zero old = old
over_lanes change does (suc lane) old =
    if does lane then change (over_lanes change does lane old) lane else over_lanes change does lane old

-- changes by a lane, which is an iteration of an index counted from another on: a number becomes that index, if it is
-- less, or one more, if it is greater; a bit is set
abbrev pub kept : (greatest : Bool) (index number lane : ℕ) → ℕ
kept greatest index number lane = if greatest then max number (index + lane + 1) else min number (index + lane)

abbrev pub set_by_lane : Bool → ℕ → Bool
set_by_lane bit lane = true

-- a lane of a mask gets to an element
abbrev pub gets_to : (halves : Bool) → Mask → Places → (e lane : ℕ) → Bool
gets_to halves mask places e lane = is_in mask lane && (element_named halves (place_at places lane) == e)

-- so it does, if something is done
abbrev pub reaches : (halves : Bool) → Mask → Places → (done : Bool) → (e lane : ℕ) → Bool
reaches halves mask places done e lane = gets_to halves mask places e lane && done

abbrev pub reached_by : Reached → (done : Bool) → (e lane : ℕ) → Bool
reached_by reached = reaches reached.halves reached.mask.now reached.places.now

-- the elements that lanes of a mask get to are below a number
abbrev pub AreBelow : (count lanes : ℕ) (halves : Bool) → Mask → Places → Type 0
AreBelow count lanes halves mask places = (lane : ℕ) → lane < lanes → LiesBelow count halves mask places lane

-- lanes get to elements that run on one after another, from a first one on
abbrev pub runs_to : (start e lane : ℕ) → Bool
runs_to start e lane = start + lane == e

-- or to places, which are halves or elements
abbrev pub runs_on : (by_halves : Bool) (first e lane : ℕ) → Bool
runs_on by_halves first e lane = element_named by_halves (first + lane) == e

-- so do all lanes of a mask
pub record IsRun (count : ℕ) (by_halves : Bool) (first : ℕ) (halves : Bool) (mask : Mask) (places : Places) (lanes : ℕ)
    : Type 0 where
  pub within : (lane : ℕ) → lane < lanes → element_named by_halves (first + lane) < count
  pub small : first + lanes < 4294967296
  pub each : (e lane : ℕ) → lane < lanes → gets_to halves mask places e lane ≡ runs_on by_halves first e lane

-- or those of a mask all to one element
abbrev pub is_at : Mask → (at e lane : ℕ) → Bool
is_at mask at e lane = (e == at) && is_in mask lane

pub record IsOne (count at : ℕ) (halves : Bool) (mask : Mask) (places : Places) (lanes : ℕ) : Type 0 where
  pub within : at < count
  pub each : (e lane : ℕ) → lane < lanes → gets_to halves mask places e lane ≡ is_at mask at e lane

-- elements below a number lie so
abbrev pub AreElements : (count : ℕ) → Elements → (halves : Bool) → Mask → Places → (lanes : ℕ) → Type 0
AreElements count (One at) halves mask places lanes = IsOne count at halves mask places lanes
AreElements count (Run by_halves first) halves mask places lanes = IsRun count by_halves first halves mask places lanes
AreElements count Any halves mask places lanes = Unit {0}

-- a lane is the first of those that do something, or the last
pub record IsEnd (does : ℕ → Bool) (greatest : Bool) (lanes end : ℕ) : Type 0 where
  pub there : does end ≡ true
  pub within : end < lanes
  pub first : greatest ≡ false → (lane : ℕ) → lane < lanes → does lane ≡ true → end ≤ lane
  pub last : greatest ≡ true → (lane : ℕ) → lane < lanes → does lane ≡ true → lane ≤ end

-- lanes get to elements below a number, which lie as is said of them
pub record AreReached (count : ℕ) (reached : Reached) : Type 0 where
  pub room : reached.lanes ≤ 512
  pub below : AreBelow count reached.lanes reached.halves reached.mask.now reached.places.now
  pub first : IsEnd (is_in reached.mask.now) false reached.lanes reached.first
  pub last : IsEnd (is_in reached.mask.now) true reached.lanes reached.last
  pub elements : AreElements count reached.elements reached.halves reached.mask.now reached.places.now reached.lanes

-- numbers after each lane kept its own in the elements that it gets to
pub record KeepsNumbers (greatest : Bool) (does : (e lane : ℕ) → Bool) (lanes index : ℕ) (old new : List ℕ) : Type 0
  where
    pub count : length new ≡ length old
    pub numbers : (e : ℕ) → slice_index new e
        ≡ over_lanes (kept greatest index) (does e) lanes (slice_index old e)

-- and bits after it set theirs
pub record SetsBits (does : (e lane : ℕ) → Bool) (lanes : ℕ) (old new : List ℕ) : Type 0 where
  pub count : length new ≡ length old
  pub bits : (e : ℕ) → bit_of new e ≡ over_lanes set_by_lane (does e) lanes (bit_of old e)

-- the elements that lanes get to have numbers
abbrev pub HaveNumbers : Reached → Tested → Type 0
HaveNumbers reached (ByFlow planes) =
    AreReached (length planes.first.items) reached × AreReached (length planes.last.items) reached
HaveNumbers reached (ByLrpd planes) = ⊥

-- whether a lane touches an element by an access of which something holds
abbrev pub Touching : Type 0
Touching = (holds : AccessKind → Bool) (e lane : ℕ) → Bool

-- numbers of planes for the flow test after what lanes touch: at each element, the least index that writes it, and one
-- more than the greatest that looks at it
abbrev pub FlowKeeps : Touching → (lanes index : ℕ) → (old new : Tested) → Type 0
FlowKeeps does lanes index (ByFlow old) (ByFlow new) =
    KeepsNumbers false (does kind_writes) lanes index old.first.items new.first.items
    × KeepsNumbers true (does kind_looks) lanes index old.last.items new.last.items
FlowKeeps does lanes index (ByFlow old) (ByLrpd new) = ⊥
FlowKeeps does lanes index (ByLrpd old) (ByFlow new) = ⊥
FlowKeeps does lanes index (ByLrpd old) (ByLrpd new) = ⊥

-- all planes
pub record SitesMarked (does : Touching) (index lanes : ℕ) (old new : Planes) : Type 0 where
  pub shape : KeepsShape old new
  pub plain : SetsBits (does kind_is_plain) lanes old.plain.items new.plain.items
  pub by : (op : Op) → SetsBits (does (kind_reduces_by op)) lanes (plane_by old.operators op)
      (plane_by new.operators op)
  pub tested : FlowKeeps does lanes index old.tested new.tested

-- what is so of all that marks say of accesses
pub record EachMark (P : (AccessKind → Bool) → Type 0) : Type 0 where
  pub writes : P kind_writes
  pub looks : P kind_looks
  pub plain : P kind_is_plain
  pub by : (op : Op) → P (kind_reduces_by op)

-- accesses of a kind leave all marks that those of another do
abbrev pub Covers : (kind other : AccessKind) → Type 0
Covers kind other = EachMark (λ holds. holds other ≡ true → holds kind ≡ true)

-- a lane doesn't get to one element at two sites
abbrev pub IsApart : LaneRows → (lane : ℕ) → (first second : Site) → Type 0
IsApart rows lane first second = has rows first lane ≡ true → has rows second lane ≡ true
    → element_named (is_of_halves first.kind) (place_of rows first lane)
    ≢ element_named (is_of_halves second.kind) (place_of rows second lane)

-- a lane gets to an element at a site
abbrev pub gets_at : LaneRows → (e lane : ℕ) → Site → Bool
gets_at rows e lane site = gets_to (is_of_halves site.kind) (mask_of rows site) (places_of rows site) e lane

-- a lane touches an element at a site by an access of which this holds
abbrev pub touches_at : LaneRows → Site → Touching
touches_at rows site holds e lane = gets_at rows e lane site && holds (access_kind site.kind)

-- so it does at one of some sites
abbrev pub touches_in : LaneRows → List Site → Touching
touches_in rows sites holds e lane = list_any (λ site. touches_at rows site holds e lane) sites

-- accesses of which this holds add nothing, at the elements that lanes get to at a site, to what they touch at others
abbrev pub AddsNothing : LaneRows → (lanes : ℕ) → AccessKind → Site → (others : List Site) → (AccessKind → Bool)
    → Type 0
AddsNothing rows lanes access site others holds = (e lane : ℕ) → lane < lanes → gets_at rows e lane site ≡ true
    → holds access ≡ true → touches_in rows others holds e lane ≡ true

-- lanes get at another site to whatever element they get to at a site
abbrev pub GoesWith : LaneRows → (lanes : ℕ) → (site other : Site) → Type 0
GoesWith rows lanes site other = (e lane : ℕ) → lane < lanes → gets_at rows e lane site ≡ true
    → gets_at rows e lane other ≡ true

-- they look there at none of some sites
abbrev pub IsUnseen : LaneRows → (lanes : ℕ) → List Site → Site → Type 0
IsUnseen rows lanes later site = (e lane : ℕ) → lane < lanes → gets_at rows e lane site ≡ true
    → touches_in rows later kind_looks e lane ≡ false

-- where a lane stores at a site, and looked at its element at no earlier one, it looks at it at no later one
abbrev pub IsFree : LaneRows → (lanes : ℕ) → (before : List Site) → Site → (later : List Site) → Type 0
IsFree rows lanes before site later = kind_looks (access_kind site.kind) ≡ false → (e lane : ℕ) → lane < lanes
    → gets_at rows e lane site ≡ true → touches_in rows before kind_looks e lane ≡ false
    → touches_in rows later kind_looks e lane ≡ false

-- so it is at each site
abbrev pub AreUnseen : LaneRows → (lanes : ℕ) → List Site → Type 0
AreUnseen rows lanes sites = (at : ℕ) (d : Site) → at < length sites
    → IsFree rows lanes (take at sites) (slice_index_or sites at d) (drop (at + 1) sites)
