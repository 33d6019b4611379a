-- Which lanes may go together, and what stamps say of it.
use Rattle.std.specs.Prelude.{◌≡◌, ℕ, ◌+◌, ◌-◌, ◌<◌, ◌≤◌, Bool, true, false, List, length, slice_index, slice_index_or}
use Rattle.std.specs.{Prelude.{if◌then◌else◌, bit_and, ◌⊎◌}, List.{All, AllPairs}}
use Rattle.array_maps.specs.{MapList.{AreWords}, declared.access.Half.TheVariants.{Low}}
use Rattle.loop_core_model.specs.{declared.access.Access.{Access}, Kinds.{by_one_operator}}
use Rattle.loop_core_model.specs.Effects.{EffectLog, effects_of, kind_of_deed, words_after_site_effects}
use Rattle.loop_core_model.specs.Effects.{words_after_each_lane, LoadsSame}
use Rattle.lane_stamps.specs.declared.{kind.Kind.{Kind}, site.Site.{Site}}
use Rattle.lane_stamps.specs.Sites.{LaneRows, Covers, Touches, deed_by, leaves, loads}

-- the first lanes may go together: on any words each loads the same after those before it, and site by site they leave
-- what they leave lane by lane
pub record GoTogether (log : EffectLog) (lanes : ℕ) : Type 0 where
  pub loads : (words : List ℕ) → AreWords words → (lane : ℕ) → lane < lanes
      → LoadsSame words (words_after_each_lane log lane words) (effects_of log lane)
  pub in_order : (words : List ℕ) → words_after_site_effects log lanes words ≡ words_after_each_lane log lanes words

-- a lane doesn't load at a site a half that it left at an earlier one
abbrev pub LoadsNoOwn : LaneRows → (lane : ℕ) (before after : Site) → Type 0
LoadsNoOwn lanes lane before after = leaves before.kind ≡ true → loads after.kind ≡ true → (half : ℕ)
    → Touches lanes before lane half → Touches lanes after lane half → ⊥

-- so of the first lanes
abbrev pub NoneAfterOwn : List Site → LaneRows → (count : ℕ) → Type 0
NoneAfterOwn sites lanes count = (lane : ℕ) → lane < count → AllPairs (LoadsNoOwn lanes lane) sites

-- the kind of the accesses at a site
abbrev pub kind_by : Kind → Access
kind_by kind = kind_of_deed (deed_by kind Low 0)

-- both reduce, by one operator
abbrev pub reduce_alike : Kind → Kind → Bool
reduce_alike first second = by_one_operator (kind_by first) (kind_by second)

-- the kind of the last site that leaves something, after one more
abbrev pub last_kind : (last kind : Kind) → Kind
last_kind last kind = if leaves kind then kind else last

-- ranks rise along the sites that leave something, but for those that reduce by one operator
pub record AreRanked (sites : List Site) : Type 0 where
  pub some : All (λ site. leaves site.kind ≡ true → 0 < site.rank) sites
  pub few : All (λ site. site.rank ≤ length sites + 1) sites
  pub rise : AllPairs (λ first second. leaves first.kind ≡ true → leaves second.kind ≡ true
      → first.rank ≤ second.rank) sites
  pub alike : AllPairs (λ first second. leaves first.kind ≡ true → leaves second.kind ≡ true
      → first.rank ≡ second.rank → reduce_alike first.kind second.kind ≡ true) sites

-- the greatest rank that a half may have when a lane gets to this site
abbrev pub allowed : Site → ℕ
allowed site = if loads site.kind then 0 else site.rank

-- if an earlier lane leaves a half at one site that a later one accesses at another, its rank is allowed there
abbrev pub Unmet : LaneRows → (later earlier : ℕ) (at by : Site) → Type 0
Unmet lanes later earlier at by = leaves by.kind ≡ true → (half : ℕ) → Touches lanes at later half
    → Touches lanes by earlier half → by.rank ≤ allowed at

-- so of the first lanes, and all sites
abbrev pub NoneMeets : List Site → LaneRows → (count : ℕ) → Type 0
NoneMeets sites lanes count = (later earlier : ℕ) → earlier < later → later < count
    → All (λ at. All (λ by. Unmet lanes later earlier at by) sites) sites

-- of two sites one isn't watched
abbrev pub IsUnwatched : (first second : Site) → Type 0
IsUnwatched first second = (first.watched ≡ false) ⊎ (second.watched ≡ false)

-- pairs of sites of which one isn't watched are known not to meet where order matters
pub record AreKnownApart (sites : List Site) (lanes : LaneRows) (count : ℕ) : Type 0 where
  pub unmet : (later earlier : ℕ) → earlier < later → later < count
      → All (λ at. All (λ by. IsUnwatched at by → Unmet lanes later earlier at by) sites) sites
  pub own : (lane : ℕ) → lane < count
      → AllPairs (λ before after. IsUnwatched before after → LoadsNoOwn lanes lane before after) sites

-- the slot of a half, of so many, and its stamp
abbrev pub slot_of : (slots half : ℕ) → ℕ
slot_of slots half = bit_and half (slots - 1)

abbrev pub stamp_at : (stamps : List ℕ) (half : ℕ) → ℕ
stamp_at stamps half = slice_index stamps (slot_of (length stamps) half)

-- an earlier lane, or the same at an earlier site
abbrev pub IsBefore : (earlier by lane at : ℕ) → Type 0
IsBefore earlier by lane at = (earlier < lane) ⊎ ((earlier ≡ lane) × (by < at))

-- a lane accesses a half at a site, whose slot is that of a half that an earlier lane left at another, or the same at
-- an earlier site, where its rank is greater than is allowed
pub record Meets (sites : List Site) (lanes : LaneRows) (slots lane : ℕ) : Type 0 where
  pub at : ℕ
  pub by : ℕ
  pub earlier : ℕ
  pub half : ℕ
  pub other : ℕ
  pub at_within : at < length sites
  pub by_within : by < length sites
  pub before : IsBefore earlier by lane at
  pub touches : (d : Site) → Touches lanes (slice_index_or sites at d) lane half
  pub touched : (d : Site) → Touches lanes (slice_index_or sites by d) earlier other
  pub leaves_it : (d : Site) → leaves (slice_index_or sites by d).kind ≡ true
  pub same : slot_of slots half ≡ slot_of slots other
  pub greater : (d : Site) → allowed (slice_index_or sites at d) < (slice_index_or sites by d).rank

-- no stamp is greater than a number
abbrev pub AreStale : (stamps : List ℕ) (most : ℕ) → Type 0
AreStale stamps most = (slot : ℕ) → slice_index stamps slot ≤ most

-- no stamp is less than before
abbrev pub Rises : (old new : List ℕ) → Type 0
Rises old new = (at : ℕ) → slice_index old at ≤ slice_index new at

-- the halves of a place are stamped with what is allowed there, or less
abbrev pub AreFree : (stamps : List ℕ) (base : ℕ) → LaneRows → (lane : ℕ) → Site → Type 0
AreFree stamps base lanes lane site = (half : ℕ) → Touches lanes site lane half
    → stamp_at stamps half ≤ base + allowed site

-- what a lane leaves has the site's stamp, or a greater one
abbrev pub AreStamped : (stamps : List ℕ) (base : ℕ) → LaneRows → (lane : ℕ) → Site → Type 0
AreStamped stamps base lanes lane site = leaves site.kind ≡ true → (half : ℕ) → Touches lanes site lane half
    → base + site.rank ≤ stamp_at stamps half

-- a half of a place has a greater stamp
pub record CoversGreater (stamps : List ℕ) (halves : Bool) (place most : ℕ) : Type 0 where
  pub half : ℕ
  pub covers : Covers halves place half
  pub greater : most < stamp_at stamps half

-- a slot is that of a half of a place
pub record IsSlotOf (slots : ℕ) (halves : Bool) (place slot : ℕ) : Type 0 where
  pub half : ℕ
  pub covers : Covers halves place half
  pub same : slot_of slots half ≡ slot

-- all stamps are as they were, but for those of the halves of a place
abbrev pub StampsOnly : (old new : List ℕ) (halves : Bool) (place mark : ℕ) → Type 0
StampsOnly old new halves place mark = (slot : ℕ) → (slice_index new slot ≡ slice_index old slot)
    ⊎ (IsSlotOf (length old) halves place slot × (slice_index new slot ≡ mark))

-- a lane gets to a site, and accesses a half there that has a greater stamp than is allowed
pub record IsStopped (stamps : List ℕ) (base : ℕ) (lanes : LaneRows) (lane : ℕ) (site : Site) : Type 0 where
  pub half : ℕ
  pub touches : Touches lanes site lane half
  pub greater : base + allowed site < stamp_at stamps half

-- a slot is that of a half that a lane leaves at a site, and has the site's stamp
pub record IsLeft (slots base : ℕ) (lanes : LaneRows) (lane : ℕ) (site : Site) (slot stamp : ℕ) : Type 0 where
  pub half : ℕ
  pub leaves_it : leaves site.kind ≡ true
  pub touches : Touches lanes site lane half
  pub same : slot_of slots half ≡ slot
  pub stamped : stamp ≡ base + site.rank

-- all stamps are as they were, but for those of the halves that a lane leaves at a site
abbrev pub LeavesOnly : (old new : List ℕ) (base : ℕ) → LaneRows → (lane : ℕ) → Site → Type 0
LeavesOnly old new base lanes lane site = (slot : ℕ) → (slice_index new slot ≡ slice_index old slot)
    ⊎ IsLeft (length old) base lanes lane site slot (slice_index new slot)

-- a slot is that of a half that was left before a lane's access at a site, and has that site's stamp
pub record WasLeft (sites : List Site) (lanes : LaneRows) (slots base lane at slot stamp : ℕ) : Type 0 where
  pub earlier : ℕ
  pub by : ℕ
  pub before : IsBefore earlier by lane at
  pub within : by < length sites
  pub left : (d : Site) → IsLeft slots base lanes earlier (slice_index_or sites by d) slot stamp

-- so is each slot that has a stamp of this turn
abbrev pub AreKnown : List Site → LaneRows → (base : ℕ) → (stamps : List ℕ) → (lane at : ℕ) → Type 0
AreKnown sites lanes base stamps lane at = (slot : ℕ) → base < slice_index stamps slot
    → WasLeft sites lanes (length stamps) base lane at slot (slice_index stamps slot)

-- stamps that were not greater than a number aren't after the sites, if their stamps aren't
abbrev pub StayStale : List Site → (base : ℕ) → (old new : List ℕ) → Type 0
StayStale sites base old new = (most : ℕ) → All (λ site. base + site.rank ≤ most) sites → AreStale old most
    → AreStale new most

-- what stamps say of sites that are watched
abbrev pub WatchedFree : (stamps : List ℕ) (base : ℕ) → LaneRows → (lane : ℕ) → Site → Type 0
WatchedFree stamps base lanes lane site = site.watched ≡ true → AreFree stamps base lanes lane site

abbrev pub WatchedStamped : (stamps : List ℕ) (base : ℕ) → LaneRows → (lane : ℕ) → Site → Type 0
WatchedStamped stamps base lanes lane site = site.watched ≡ true → AreStamped stamps base lanes lane site

abbrev pub WatchedOwn : LaneRows → (lane : ℕ) (before after : Site) → Type 0
WatchedOwn lanes lane before after = before.watched ≡ true → after.watched ≡ true → LoadsNoOwn lanes lane before after

abbrev pub WatchedUnmet : List Site → LaneRows → (count : ℕ) → Type 0
WatchedUnmet sites lanes count = (later earlier : ℕ) → earlier < later → later < count → All (λ at. All (λ by.
    at.watched ≡ true → by.watched ≡ true → Unmet lanes later earlier at by) sites) sites

-- from each site on, the number of the next that is watched, or of sites: those between aren't
pub record IsLink (sites : List Site) (k next : ℕ) : Type 0 where
  pub onward : k ≤ next
  pub within : next ≤ length sites
  pub between : (j : ℕ) (d : Site) → k ≤ j → j < next → (slice_index_or sites j d).watched ≡ false

abbrev pub AreLinks : List Site → (links : List ℕ) → Type 0
AreLinks sites links = (k : ℕ) → k ≤ length sites → IsLink sites k (slice_index links k)
