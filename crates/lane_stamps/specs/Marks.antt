-- Marks of lanes at sites: where lanes load at all places at which they leave something, one look says who may go.
use Rattle.std.specs.Prelude.{◌≡◌, ℕ, ◌+◌, ◌-◌, ◌*◌, ◌<◌, ◌≤◌, Bool, true, List, length, slice_index, slice_index_or}
use Rattle.std.specs.{Prelude.{◌⊎◌}, List.{All}}
use Rattle.lane_rows.specs.{Rows.{is_in, place_at}, declared.{mask.Mask.{Mask}, places.Places.{Places}}}
use Rattle.lane_stamps.specs.{declared.site.Site.{Site}, Stamps.{slot_of, stamp_at}}
use Rattle.lane_stamps.specs.Sites.{LaneRows, has, is_of_halves, leaves, loads, mask_of, place_of, places_of}

-- the first lanes, where they are in a mask, have the same place in both
abbrev pub ArePlacedAlike : Mask → (first second : Places) → (count : ℕ) → Type 0
ArePlacedAlike mask first second count = (lane : ℕ) → lane < count → is_in mask lane ≡ true
    → place_at first lane ≡ place_at second lane

-- what is so of each of the first lanes that gets to a site
abbrev pub EachThere : LaneRows → (count : ℕ) → Site → (P : ℕ → Type 0) → Type 0
EachThere lanes count site P = (lane : ℕ) → lane < count → has lanes site lane ≡ true → P lane

-- a lane loads at another site what it accesses at one
pub record IsLoadedBy (lanes : LaneRows) (site by : Site) (lane : ℕ) : Type 0 where
  pub watched : by.watched ≡ true
  pub loads_it : loads by.kind ≡ true
  pub halves : is_of_halves by.kind ≡ is_of_halves site.kind
  pub place : place_of lanes by lane ≡ place_of lanes site lane
  pub there : has lanes by lane ≡ true

-- so at one of some sites
pub record IsLoaded (sites : List Site) (lanes : LaneRows) (site : Site) (lane : ℕ) : Type 0 where
  pub by : ℕ
  pub within : by < length sites
  pub loaded : (d : Site) → IsLoadedBy lanes site (slice_index_or sites by d) lane

-- a site is of a size, and a lane loads what it leaves there
pub record IsPlain (sites : List Site) (lanes : LaneRows) (halves : Bool) (site : Site) (lane : ℕ) : Type 0 where
  pub size : is_of_halves site.kind ≡ halves
  pub loaded : leaves site.kind ≡ true → IsLoaded sites lanes site lane

-- so do the first lanes at all sites that are watched
abbrev pub AreLoaded : List Site → LaneRows → (halves : Bool) (count : ℕ) → Type 0
AreLoaded sites lanes halves count = All (λ site. site.watched ≡ true
    → EachThere lanes count site (IsPlain sites lanes halves site)) sites

-- the mark of the first lane at a site, for so many sites and lanes, and that of a lane: the earlier the access, the
-- greater its mark, and all are greater than the base
abbrev pub top_at : (base sites count at : ℕ) → ℕ
top_at base sites count at = base + sites * (count + 1) - at

abbrev pub mark_at : (top sites lane : ℕ) → ℕ
mark_at top sites lane = top - sites * lane

-- a slot is that of the place of a lane of a mask: all sites are of one size here, and so a place has one slot
pub record IsSlotAt (slots : ℕ) (mask : Mask) (places : Places) (lane slot : ℕ) : Type 0 where
  pub there : is_in mask lane ≡ true
  pub same : slot_of slots (place_at places lane) ≡ slot

-- all stamps are as they were, but for that of a lane of a mask
abbrev pub MarksOne : (old new : List ℕ) → Mask → Places → (lane mark : ℕ) → Type 0
MarksOne old new mask places lane mark = (slot : ℕ) → (slice_index new slot ≡ slice_index old slot)
    ⊎ (IsSlotAt (length old) mask places lane slot × (slice_index new slot ≡ mark))

-- lanes of a mask have left their marks, or greater ones
abbrev pub AreMarked : (stamps : List ℕ) → Mask → Places → (count top sites : ℕ) → Type 0
AreMarked stamps mask places count top sites = (lane : ℕ) → lane < count → is_in mask lane ≡ true
    → mark_at top sites lane ≤ stamp_at stamps (place_at places lane)

-- a slot has the mark of a lane of a mask
pub record HasMark (slots : ℕ) (mask : Mask) (places : Places) (count top sites slot stamp : ℕ)
    : Type 0 where
  pub lane : ℕ
  pub within : lane < count
  pub is_slot : IsSlotAt slots mask places lane slot
  pub marked : stamp ≡ mark_at top sites lane

-- all stamps are as they were, but for such
abbrev pub MarksOnly : (old new : List ℕ) → Mask → Places → (count top sites : ℕ) → Type 0
MarksOnly old new mask places count top sites = (slot : ℕ) → (slice_index new slot ≡ slice_index old slot)
    ⊎ HasMark (length old) mask places count top sites slot (slice_index new slot)

-- lanes of a mask find no greater marks than theirs
abbrev pub FindNoGreater : (stamps : List ℕ) → Mask → Places → (count top sites : ℕ) → Type 0
FindNoGreater stamps mask places count top sites = (lane : ℕ) → lane < count → is_in mask lane ≡ true
    → stamp_at stamps (place_at places lane) ≤ mark_at top sites lane

-- a lane of a mask finds one that is greater than a mark
pub record FindsGreater (stamps : List ℕ) (mask : Mask) (places : Places) (lane mark : ℕ) : Type 0
  where
    pub there : is_in mask lane ≡ true
    pub greater : mark < stamp_at stamps (place_at places lane)

-- what is so of each site below one, and of its number
abbrev pub EachBelow : List Site → (to : ℕ) → (P : ℕ → Site → Type 0) → Type 0
EachBelow sites to P = (at : ℕ) (d : Site) → at < to → P at (slice_index_or sites at d)

-- what lanes leave at a site, if it is watched, has their marks, or greater ones
abbrev pub LeavesMarks : LaneRows → (stamps : List ℕ) (count top sites : ℕ) → Site → Type 0
LeavesMarks lanes stamps count top sites site = site.watched ≡ true → leaves site.kind ≡ true
    → AreMarked stamps (mask_of lanes site) (places_of lanes site) count top sites

-- what they load there has no greater ones
abbrev pub LoadsNoGreater : LaneRows → (stamps : List ℕ) (count top sites : ℕ) → Site → Type 0
LoadsNoGreater lanes stamps count top sites site = site.watched ≡ true → loads site.kind ≡ true
    → FindNoGreater stamps (mask_of lanes site) (places_of lanes site) count top sites

-- a slot has the mark that a lane left at a site that is watched
pub record IsMarkAt (lanes : LaneRows) (slots count top sites : ℕ) (site : Site) (slot stamp : ℕ)
    : Type 0 where
  pub watched : site.watched ≡ true
  pub leaves_it : leaves site.kind ≡ true
  pub mark : HasMark slots (mask_of lanes site) (places_of lanes site) count top sites slot stamp

-- all stamps are as they were, but for such
abbrev pub MarksAt : (old new : List ℕ) → LaneRows → (count top sites : ℕ) → Site → Type 0
MarksAt old new lanes count top sites site = (slot : ℕ) → (slice_index new slot ≡ slice_index old slot)
    ⊎ IsMarkAt lanes (length old) count top sites site slot (slice_index new slot)

-- a lane loads at a site that is watched what has a greater mark than its own there
pub record LoadsGreaterAt (lanes : LaneRows) (stamps : List ℕ) (lane mark : ℕ) (site : Site) : Type 0
  where
    pub watched : site.watched ≡ true
    pub loads_it : loads site.kind ≡ true
    pub finds : FindsGreater stamps (mask_of lanes site) (places_of lanes site) lane mark

-- at all sites
abbrev pub LeaveMarks : List Site → LaneRows → (stamps : List ℕ) (base count to : ℕ) → Type 0
LeaveMarks sites lanes stamps base count to = EachBelow sites to
    (λ at. LeavesMarks lanes stamps count (top_at base (length sites) count at) (length sites))

abbrev pub LoadNoGreater : List Site → LaneRows → (stamps : List ℕ) (base count limit to : ℕ) → Type 0
LoadNoGreater sites lanes stamps base count limit to = EachBelow sites to
    (λ at. LoadsNoGreater lanes stamps limit (top_at base (length sites) count at) (length sites))

-- at one of them
pub record IsMark (sites : List Site) (lanes : LaneRows) (slots base count slot stamp : ℕ) : Type 0
  where
    pub by : ℕ
    pub within : by < length sites
    pub left : (d : Site) → IsMarkAt lanes slots count (top_at base (length sites) count by) (length sites)
        (slice_index_or sites by d) slot stamp

pub record LoadsGreater (sites : List Site) (lanes : LaneRows) (stamps : List ℕ) (base count lane : ℕ)
    : Type 0 where
  pub at : ℕ
  pub within : at < length sites
  pub found : (d : Site) → LoadsGreaterAt lanes stamps lane
      (mark_at (top_at base (length sites) count at) (length sites) lane) (slice_index_or sites at d)

-- each stamp of this turn is such a mark
abbrev pub AreMarks : List Site → LaneRows → (stamps : List ℕ) (base count : ℕ) → Type 0
AreMarks sites lanes stamps base count = (slot : ℕ) → base < slice_index stamps slot
    → IsMark sites lanes (length stamps) base count slot (slice_index stamps slot)
