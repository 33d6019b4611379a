-- Which sites are watched.
use Rattle.std.specs.Prelude.{◌≡◌, ℕ, ◌<◌, true, List, length, slice_get, slice_index_or, Some}
use Rattle.lane_stamps.specs.{declared.site.Site.{Site}, Stamps.{IsUnwatched, reduce_alike}}
use Rattle.row_facts.specs.{declared.meeting.Meeting.{Meeting}, Meetings.{IsListed}}

-- the site of a number is watched, if there is one
abbrev pub IsWatched : List Site → (at : ℕ) → Type 0
IsWatched sites at = (site : Site) → slice_get sites at ≡ Some site → site.watched ≡ true

-- so are the sites of each meeting
abbrev pub WatchesEach : List Site → List Meeting → Type 0
WatchesEach sites meetings = (k : ℕ) (meeting : Meeting) → slice_get meetings k ≡ Some meeting
    → IsWatched sites meeting.first × IsWatched sites meeting.second

-- if lanes reduce at two sites by one operator, and one of them isn't watched, they have one rank
abbrev pub IsEven : (site other : Site) → Type 0
IsEven site other = IsUnwatched site other → reduce_alike site.kind other.kind ≡ true → site.rank ≡ other.rank

-- so for one and each of some, and for each two
pub record IsEvenWith (sites : List Site) (site : Site) : Type 0 where
  pub each : (j : ℕ) (d : Site) → j < length sites → IsEven site (slice_index_or sites j d)

abbrev pub AreEven : List Site → Type 0
AreEven sites = (i : ℕ) (d : Site) → i < length sites → IsEvenWith sites (slice_index_or sites i d)

-- two sites of which one isn't watched have no meeting, and they are even
pub record AreMarked (meetings : List Meeting) (sites : List Site) : Type 0 where
  pub listed : (i j : ℕ) (d : Site) → i < length sites → j < length sites → IsListed meetings i j →
      ((slice_index_or sites i d).watched ≡ true) × ((slice_index_or sites j d).watched ≡ true)
  pub even : (i j : ℕ) (d : Site) → i < length sites → j < length sites →
      IsEven (slice_index_or sites i d) (slice_index_or sites j d)
