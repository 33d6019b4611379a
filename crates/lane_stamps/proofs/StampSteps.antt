-- What stamps say, one site and one lane further.
use Rattle.std.proofs.Common.{◌≡◌, ℕ, ◌+◌, ◌-◌, ◌<◌, ◌≤◌, inl, inr, List, length, slice_index, slice_index_or, refl}
use Rattle.std.{proofs.Common.{sym, ap, subst, arith, bit_and}, specs.Prelude.{Bool, true, false, if◌then◌else◌}}
use Rattle.std.{specs.List.{All, AllPairs}, proofs.lemmas.{Bool.{cases_eq}, List.{get_or_default}}}
use Rattle.lane_stamps.specs.{declared.site.Site.{Site}, Sites.{LaneRows, leaves, loads}}
use Rattle.lane_stamps.specs.{Marks.{EachBelow}, Stamps.{AreFree, AreStamped, AreKnownApart, IsUnwatched, LoadsNoOwn, NoneAfterOwn}}
use Rattle.lane_stamps.specs.Stamps.{NoneMeets, Rises, Unmet, WatchedFree, WatchedStamped, WatchedOwn, WatchedUnmet, allowed, stamp_at}

-- what is so of each site below one and of its number, and of that one, is so of one more
pub each_more : (P : ℕ → Site → Type 0) (sites : List Site) (n : ℕ) (e : Site) → n < length sites
    → EachBelow sites n P → P n (slice_index_or sites n e) → EachBelow sites (n + 1) P
each_more P sites n e inside below here k d less = elim (cases_eq k n) [
  | inl same ↦ rw (same, ← get_or_default sites n e d inside) here
  | inr other ↦ below k d (omega (arith, other, less))
]

pub pairs_more : (R : Site → Site → Type 0) (sites : List Site) (n : ℕ) (e : Site) → n < length sites
    → ((i j : ℕ) (d : Site) → i < j → j < n → R (slice_index_or sites i d) (slice_index_or sites j d))
    → ((i : ℕ) (d : Site) → i < n → R (slice_index_or sites i d) (slice_index_or sites n e)) → (i j : ℕ) (d : Site)
    → i < j → j < n + 1 → R (slice_index_or sites i d) (slice_index_or sites j d)
pairs_more R sites n e inside below here i j d order less = elim (cases_eq j n) [
  | inl same ↦ rw (same, ← get_or_default sites n e d inside) (here i d (omega (arith, same, order)))
  | inr other ↦ below i j d order (omega (arith, other, less))
]

-- stamps rise
pub rises_at : (old new : List ℕ) (half : ℕ) → length new ≡ length old → Rises old new
    → stamp_at old half ≤ stamp_at new half
rises_at old new half long rises =
    subst (λ (n : ℕ). stamp_at old half ≤ slice_index new (bit_and half (n - 1))) (sym long)
    (rises (bit_and half (length old - 1)))

-- what an earlier lane left, or the same at an earlier site, is of a rank that is allowed
pub is_allowed : (stamps : List ℕ) (base : ℕ) (lanes : LaneRows) (later earlier : ℕ) (at by : Site)
    → AreStamped stamps base lanes earlier by
    → AreFree stamps base lanes later at → Unmet lanes later earlier at by
is_allowed stamps base lanes later earlier at by stamped free left half touches touched =
    omega (arith, free half touches, stamped left half touched)

none_allowed : (site : Site) → loads site.kind ≡ true → allowed site ≡ 0
none_allowed site load = ap (λ (b : Bool). if b then 0 else site.rank) load

-- so of sites that are watched
pub watched_before : (old new : List ℕ) (base : ℕ) (lanes : LaneRows) (lane : ℕ) (site : Site)
    → length new ≡ length old → Rises old new
    → WatchedFree new base lanes lane site → WatchedFree old base lanes lane site
watched_before old new base lanes lane site long rises free watched half touches =
    omega (arith, rises_at old new half long rises, free watched half touches)

pub watched_after : (old new : List ℕ) (base : ℕ) (lanes : LaneRows) (lane : ℕ) (site : Site)
    → length new ≡ length old → Rises old new
    → WatchedStamped old base lanes lane site → WatchedStamped new base lanes lane site
watched_after old new base lanes lane site long rises stamped watched left half touches =
    omega (arith, rises_at old new half long rises, stamped watched left half touches)

pub watched_own : (stamps : List ℕ) (base : ℕ) (lanes : LaneRows) (lane : ℕ) (before after : Site)
    → (leaves before.kind ≡ true → 0 < before.rank)
    → WatchedStamped stamps base lanes lane before → WatchedFree stamps base lanes lane after
    → WatchedOwn lanes lane before after
watched_own stamps base lanes lane before after some stamped free watched looked left load half touched touches = omega (
  arith,
  free looked half touches,
  stamped watched left half touched,
  some left,
  none_allowed after load,
)

-- no site is watched
pub none_watched : (sites : List Site) (lanes : LaneRows) (count : ℕ) → All (λ site. site.watched ≡ false) sites
    → WatchedUnmet sites lanes count
none_watched sites lanes count none later earlier order below k d inside i e within looked watched =
    let not = none k d inside in
    let never : ⊥ = cc in absurd never

-- one lane further
pub unmet_more : (sites : List Site) (stamps : List ℕ) (base : ℕ) (lanes : LaneRows) (lane : ℕ)
    → ((earlier : ℕ) → earlier < lane → All (WatchedStamped stamps base lanes earlier) sites)
    → All (WatchedFree stamps base lanes lane) sites → WatchedUnmet sites lanes lane
    → WatchedUnmet sites lanes (lane + 1)
unmet_more sites stamps base lanes lane stamped free unmet later earlier order below = elim (cases_eq later lane) [
  | inl same ↦ λ k d inside i e within looked watched.
      rw same (is_allowed stamps base lanes lane earlier (slice_index_or sites k d) (slice_index_or sites i e)
      (stamped earlier (omega (arith, same, order)) i e within watched) (free k d inside looked))
  | inr other ↦ unmet later earlier order (omega (arith, other, below))
]

-- what is so where one of two sites isn't watched, and where both are
by_watched : (first second : Site) (A : Type 0) → (IsUnwatched first second → A)
    → (first.watched ≡ true → second.watched ≡ true → A) → A
by_watched first second A apart both = go first.watched second.watched refl refl
  where
    go : (one two : Bool) → first.watched ≡ one → second.watched ≡ two → A
    go false two one_is two_is = apart (inl one_is)
    go true false one_is two_is = apart (inr two_is)
    go true true one_is two_is = both one_is two_is

-- with those that are known not to meet
pub all_unmet : (sites : List Site) (lanes : LaneRows) (count limit : ℕ) → limit ≤ count
    → AreKnownApart sites lanes count → WatchedUnmet sites lanes limit
    → NoneMeets sites lanes limit
all_unmet sites lanes count limit few known unmet later earlier order below k d inside i e within =
    by_watched (slice_index_or sites k d) (slice_index_or sites i e)
    (Unmet lanes later earlier (slice_index_or sites k d) (slice_index_or sites i e))
    (known.unmet later earlier order (omega (arith, few, below)) k d inside i e within)
    (unmet later earlier order below k d inside i e within)

pub all_own : (sites : List Site) (lanes : LaneRows) (count limit : ℕ) → limit ≤ count → AreKnownApart sites lanes count
    → ((lane : ℕ) → lane < limit → AllPairs (WatchedOwn lanes lane) sites) → NoneAfterOwn sites lanes limit
all_own sites lanes count limit few known own lane below i j d order inside =
    by_watched (slice_index_or sites i d) (slice_index_or sites j d)
    (LoadsNoOwn lanes lane (slice_index_or sites i d) (slice_index_or sites j d))
    (known.own lane (omega (arith, few, below)) i j d order inside) (own lane below i j d order inside)
