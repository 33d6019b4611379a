-- Where stamps are from, one site and one lane further.
use Rattle.std.proofs.Common.{◌≡◌, ℕ, ◌+◌, ◌<◌, ◌≤◌, inl, inr, List, length, slice_index, slice_index_or, refl, sym}
use Rattle.std.{proofs.{Common.{subst, arith}, lemmas.List.{get_or_default}}, specs.List.{All}}
use Rattle.lane_stamps.specs.{declared.site.Site.{Site}, Sites.{LaneRows}, Stamps.{slot_of}}
use Rattle.lane_stamps.specs.Stamps.{AreKnown, AreStale, IsBefore, IsLeft, IsStopped, LeavesOnly, Meets, allowed}

-- what is before an access is before one at a later site, and before the next lane's
pub site_on : (lane at next : ℕ) → at ≤ next → (earlier by : ℕ) → IsBefore earlier by lane at
    → IsBefore earlier by lane next
site_on lane at next order earlier by (inl less) = inl less
site_on lane at next order earlier by (inr same) = inr (same.0, omega (arith, same.1, order))

pub lane_on : (lane at earlier by : ℕ) → IsBefore earlier by lane at → IsBefore earlier by (lane + 1) 0
lane_on lane at earlier by (inl less) = inl (omega (arith, less))
lane_on lane at earlier by (inr same) = inl (omega (arith, same.0))

pub known_on : (sites : List Site) (lanes : LaneRows) (base lane at later next : ℕ) (stamps : List ℕ)
    → ((earlier by : ℕ) → IsBefore earlier by lane at → IsBefore earlier by later next)
    → AreKnown sites lanes base stamps lane at → AreKnown sites lanes base stamps later next
known_on sites lanes base lane at later next stamps on known slot above =
    let was = known slot above in
    record {
      earlier = was.earlier;
      by = was.by;
      before = on was.earlier was.by was.before;
      within = was.within;
      left = was.left;
    }

pub known_more : (sites : List Site) (lanes : LaneRows) (base lane at : ℕ) (old new : List ℕ) (e : Site)
    → length new ≡ length old
    → at < length sites → LeavesOnly old new base lanes lane (slice_index_or sites at e)
    → AreKnown sites lanes base old lane at
    → AreKnown sites lanes base new lane (at + 1)
known_more sites lanes base lane at old new e long inside only known slot above = elim (only slot) [
  | inl same ↦
      let was = known slot (omega (arith, above, same)) in
      record {
        earlier = was.earlier;
        by = was.by;
        before = site_on lane at (at + 1) (omega arith) was.earlier was.by was.before;
        within = was.within;
        left = λ d. subst (λ (stamp : ℕ). IsLeft (length new) base lanes was.earlier (slice_index_or sites was.by d)
            slot stamp)
            (sym same)
            (subst (λ (n : ℕ). IsLeft n base lanes was.earlier (slice_index_or sites was.by d) slot (slice_index old
            slot))
            (sym long) (was.left d));
      }
  | inr left ↦ record {
    earlier = lane;
    by = at;
    before = inr (refl, omega arith);
    within = inside;
    left = λ d. rw (long, ← get_or_default sites at e d inside) left;
  }
]

pub known_meets : (sites : List Site) (lanes : LaneRows) (base lane at : ℕ) (stamps : List ℕ) (e : Site)
    → at < length sites
    → AreKnown sites lanes base stamps lane at → IsStopped stamps base lanes lane (slice_index_or sites at e)
    → Meets sites lanes (length stamps) lane
known_meets sites lanes base lane at stamps e inside known stopped =
    let was = known (slot_of (length stamps) stopped.half) (omega (arith, stopped.greater)) in
    let left = was.left e in
    let greater : allowed (slice_index_or sites at e) < (slice_index_or sites was.by e).rank =
    omega (arith, stopped.greater, left.stamped) in
    record {
      at = at;
      by = was.by;
      earlier = was.earlier;
      half = stopped.half;
      other = left.half;
      at_within = inside;
      by_within = was.within;
      before = was.before;
      touches = λ d. rw (← get_or_default sites at e d inside) stopped.touches;
      touched = λ d. rw (← get_or_default sites was.by e d was.within) left.touches;
      leaves_it = λ d. (was.left d).leaves_it;
      same = sym left.same;
      greater = λ d. rw (← get_or_default sites at e d inside, ← get_or_default sites was.by e d was.within) greater;
    }

-- stamps that are not greater than a number
pub stale_more : (sites : List Site) (lanes : LaneRows) (base lane at most : ℕ) (old new : List ℕ) (e : Site)
    → at < length sites
    → LeavesOnly old new base lanes lane (slice_index_or sites at e) → All (λ site. base + site.rank ≤ most) sites
    → AreStale old most → AreStale new most
stale_more sites lanes base lane at most old new e inside only all stale slot = elim (only slot) [
  | inl same ↦ omega (arith, same, stale slot)
  | inr left ↦ omega (arith, left.stamped, all at e inside)
]
