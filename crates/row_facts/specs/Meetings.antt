-- Which accesses of a list may meet.
use Rattle.std.specs.Prelude.{◌≡◌, ℕ, ◌+◌, ◌*◌, ◌/◌, ◌%◌, ◌^◌, ◌<◌, ◌≤◌, ◌==◌, ◌⊎◌, if◌then◌else◌, Bool, true, false}
use Rattle.std.specs.{Prelude.{List, slice_get, Some}, List.{Contains}}
use Rattle.bpf_insn_types.specs.declared.insn.{SimpleOp.{SimpleOp}, Width.{Width, TheVariants.{W32, W64}}}
use Rattle.row_list.specs.declared.row_op.{Place.{Place}, RowOp.{RowOp, TheVariants.{Load, Store, Reduce, Fetch}}}
use Rattle.row_list.specs.{Places.{place_in}, Rows.{AreValuesOn, byte_at, is_in}}
use Rattle.row_facts.specs.declared.{fact.Fact.{Fact}, site.Site.{Site}, meeting.Meeting.{Meeting}}
use Rattle.row_facts.specs.{Apart.{IsAmong}, Facts.{AreFacts, IsSure}, Sites.{sites_of, bytes_in, IsSite}}

-- lanes go on with what they find there
abbrev pub loads : RowOp → Bool
loads (Load place extension) = true
loads (Fetch place op value compare) = true
loads _ = false

-- they leave something there
abbrev pub leaves : RowOp → Bool
leaves (Store place value) = true
leaves (Reduce place op value) = true
leaves (Fetch place op value compare) = true
leaves _ = false

-- both reduce, by one operator at one width
abbrev pub ReducesBy : (bytes : ℕ) (operator : SimpleOp) → RowOp → Type 0
ReducesBy bytes operator (Reduce place op value) = (bytes_in place.width ≡ bytes) × (op ≡ operator)
ReducesBy bytes operator _ = ⊥

abbrev pub ReduceAlike : RowOp → RowOp → Type 0
ReduceAlike (Reduce place op value) second = ReducesBy (bytes_in place.width) op second
ReduceAlike _ second = ⊥

-- a half of a map, counted over all maps, is one of those that an access at a byte is of: both of the element in which
-- the byte is, or at 32 bits the lower one if the byte is its first, and else the upper one
abbrev pub IsHalfOf : Width → (byte half : ℕ) → Type 0
IsHalfOf W64 byte half = half / 2 ≡ byte / 8
IsHalfOf W32 byte half = half ≡ 2 * (byte / 8) + (if byte % 8 == 0 then 0 else 1)

-- a lane of these values makes an access, and of a half
pub record Touches (op : RowOp) (values : List ℕ) (half : ℕ) : Type 0 where
  pub place : Place
  pub is : place_in op ≡ Some place
  pub there : is_in values place.mask ≡ true
  pub covers : IsHalfOf place.width (byte_at values place) half

-- at a site each half that is touched begins among the bytes of the access
abbrev pub IsAligned : Site → Type 0
IsAligned site = (index byte half : ℕ) → IsSure site.byte index byte → IsHalfOf site.place.width byte half →
    IsAmong byte (bytes_in site.place.width) half

-- no lane touches at one site a half that the lane so many indexes before it touches at the other
pub record AreApart (list : List RowOp) (at by : RowOp) (distance : ℕ) : Type 0 where
  pub none : (index : ℕ) (caller : List ℕ) (words before : ℕ → List ℕ) (values others : List ℕ) → index + distance ≤ 2 ^ 23 →
      AreValuesOn list (index + distance) caller words values → AreValuesOn list index caller before others →
      (half : ℕ) → Touches at values half → Touches by others half → ⊥

-- No lane touches at the first site what a lane at most 511 indexes before it leaves at the second. Order doesn't
-- matter, and nothing is said, where the first isn't an earlier site and doesn't load, or both reduce by one operator.
abbrev pub LanesNeverMeet : List RowOp → (first second : ℕ) (at by : RowOp) → Type 0
LanesNeverMeet list first second at by = leaves by ≡ true → (loads at ≡ true) ⊎ (first < second) →
    ReduceAlike at by ⊎ ((distance : ℕ) → 0 < distance → distance < 512 → AreApart list at by distance)

-- no lane touches a half at both of two sites
pub record AreApartInLane (list : List RowOp) (at by : RowOp) : Type 0 where
  pub none : (index : ℕ) (caller : List ℕ) (words : ℕ → List ℕ) (values : List ℕ) → index ≤ 2 ^ 23 → AreValuesOn list index caller words values →
      (half : ℕ) → Touches at values half → Touches by values half → ⊥

-- no lane loads at the first site what it left itself before, at the second
abbrev pub LoadsNoOwn : List RowOp → (first second : ℕ) (at by : RowOp) → Type 0
LoadsNoOwn list first second at by = leaves by ≡ true → loads at ≡ true → second < first → AreApartInLane list at by

-- so of a site of a list, with each other one
pub record LoadsNoneOwn (list : List RowOp) (first : ℕ) : Type 0 where
  pub each : (second : ℕ) (at by : RowOp) → slice_get (sites_of list) first ≡ Some at →
      slice_get (sites_of list) second ≡ Some by → LoadsNoOwn list first second at by

-- two sites, by their numbers and operations, never meet where order matters
pub record NeverMeet (list : List RowOp) (first second : ℕ) (at by : RowOp) : Type 0 where
  pub lanes : LanesNeverMeet list first second at by
  pub own : LoadsNoOwn list first second at by

-- all others are in a list of meetings
abbrev pub IsListed : List Meeting → (first second : ℕ) → Type 0
IsListed meetings first second = Contains meetings (record { first = first; second = second })

abbrev pub IsListedOrNever : List RowOp → List Meeting → (first second : ℕ) (at by : RowOp) → Type 0
IsListedOrNever list meetings first second at by = IsListed meetings first second ⊎ NeverMeet list first second at by

pub record AreMeetings (list : List RowOp) (meetings : List Meeting) : Type 0 where
  pub others : (first second : ℕ) (at by : RowOp) → slice_get (sites_of list) first ≡ Some at →
      slice_get (sites_of list) second ≡ Some by → IsListedOrNever list meetings first second at by

-- what was listed still is
pub record AreKept (old new : List Meeting) : Type 0 where
  pub each : (first second : ℕ) → IsListed old first second → IsListed new first second

-- something follows from what is known of two sites
abbrev pub Follows : List RowOp → (at by : Site) → (fact : Type 0) → Type 0
Follows list at by fact =
    (facts : List Fact) → AreFacts list facts → IsSite list facts at → IsSite list facts by → fact

-- so it does of a site with each of the first others
pub record AreDone (list : List RowOp) (sites : List Site) (first count : ℕ) (fact : ℕ → (at by : RowOp) → Type 0)
    : Type 0 where
  pub each : (second : ℕ) (at by : Site) → second < count → slice_get sites first ≡ Some at →
      slice_get sites second ≡ Some by → Follows list at by (fact second at.op by.op)
