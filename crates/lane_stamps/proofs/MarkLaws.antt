-- Marks of accesses: what they say of lanes that go together.
use Rattle.std.proofs.Common.{◌≡◌, ℕ, ◌+◌, ◌*◌, ◌%◌, ◌<◌, ◌≤◌, inl, inr, List, length, slice_index, slice_index_or, refl}
use Rattle.std.{proofs.Common.{sym, ◌∙◌, ap, subst, arith}, specs.Prelude.{Bool, true, false, if◌then◌else◌}}
use Rattle.std.{specs.List.{AllPairs}, proofs.lemmas.{Bool.{cases_lt}, List.{get_or_default}, Nat.{and_mask}}}
use Rattle.lane_rows.specs.declared.{mask.Mask.{Mask}, places.Places.{Places}}
use Rattle.lane_stamps.specs.{declared.{kind.Kind.{Kind, TheVariants.{Apply}}, site.Site.{Site}}, Stamps.{stamp_at}}
use Rattle.lane_stamps.specs.declared.kind.Kind.TheVariants.{Load, LoadHalf, Store, Fetch, Replace, FetchHalf, AddHalf}
use Rattle.lane_stamps.specs.Sites.{LaneRows, Covers, Touches, is_of_halves, leaves, loads, place_of}
use Rattle.lane_stamps.specs.Stamps.{AreRanked, AreStale, IsBefore, Meets, WatchedOwn, WatchedUnmet, allowed, slot_of}
use Rattle.lane_stamps.specs.Marks.{AreLoaded, AreMarks, IsLoadedBy, IsMark, IsMarkAt, IsSlotAt, LeaveMarks}
use Rattle.lane_stamps.specs.Marks.{LoadNoGreater, LoadsGreater, LoadsGreaterAt, MarksAt, MarksOne, MarksOnly}
use Rattle.lane_stamps.{specs.Marks.{mark_at, top_at}, proofs.MarkSteps.{before_mark, mark_above, mark_before}}

-- one lane further
pub marks_more : (mask : Mask) (places : Places) (lane top sites mark : ℕ) (first old new : List ℕ)
    → length old ≡ length first → mark ≡ mark_at top sites lane → MarksOne old new mask places lane mark
    → MarksOnly first old mask places lane top sites → MarksOnly first new mask places (lane + 1) top sites
marks_more mask places lane top sites mark first old new long is one only slot = elim (one slot) [
  | inl same ↦ elim (only slot) [
    | inl was ↦ inl (same ∙ was)
    | inr was ↦ inr (record {
      lane = was.lane;
      within = omega (arith, was.within);
      is_slot = was.is_slot;
      marked = same ∙ was.marked;
    })
  ]
  | inr now ↦ inr (record {
    lane = lane;
    within = omega arith;
    is_slot = subst (λ (slots : ℕ). IsSlotAt slots mask places lane slot) long now.0;
    marked = now.1 ∙ is;
  })
]

-- one site further
pub known_marks : (sites : List Site) (lanes : LaneRows) (base count at : ℕ) (old new : List ℕ) (e : Site)
    → length new ≡ length old → at < length sites
    → MarksAt old new lanes count (top_at base (length sites) count at) (length sites) (slice_index_or sites at e)
    → AreMarks sites lanes old base count → AreMarks sites lanes new base count
known_marks sites lanes base count at old new e long inside only known slot above = elim (only slot) [
  | inl same ↦
      let was = known slot (omega (arith, above, same)) in
      record {
        by = was.by;
        within = was.within;
        left = λ d. subst (λ (stamp : ℕ). IsMarkAt lanes (length new) count (top_at base (length sites) count
            was.by) (length sites) (slice_index_or sites was.by d) slot stamp) (sym same)
            (subst (λ (n : ℕ). IsMarkAt lanes n count (top_at base (length sites) count was.by) (length sites)
            (slice_index_or sites was.by d) slot (slice_index old slot)) (sym long) (was.left d));
      }
  | inr now ↦ record {
    by = at;
    within = inside;
    left = λ d. rw (long, ← get_or_default sites at e d inside) now;
  }
]

-- stamps are no greater than the first mark of a turn
pub marks_stale : (sites : List Site) (lanes : LaneRows) (base count : ℕ) (stamps : List ℕ) (e : Site)
    → AreMarks sites lanes stamps base count → AreStale stamps (base + length sites * (count + 1))
marks_stale sites lanes base count stamps e known slot = elim (cases_lt base (slice_index stamps slot)) [
  | inl above ↦ omega (arith, ((known slot above).left e).mark.marked)
  | inr below ↦ omega (arith, below)
]

-- a half of a place, and two places that have a half in common are equal
abbrev half_for : (halves : Bool) (place : ℕ) → ℕ
half_for true place = place
half_for false place = 2 * place

half_covers : (halves : Bool) (place : ℕ) → Covers halves place (half_for halves place)
half_covers true place = refl
half_covers false place = omega arith

same_place : (halves : Bool) (place other half : ℕ) → Covers halves place half → Covers halves other half → place ≡ other
same_place true place other half covers also = sym covers ∙ also
same_place false place other half covers also = sym covers ∙ also

-- halves of places that have one slot have one
slot_mod : (half : ℕ) → slot_of 32768 half ≡ half % 32768
slot_mod half = and_mask half 15

same_slot : (halves : Bool) (slots place other : ℕ) → slots ≡ 32768 → slot_of slots place ≡ slot_of slots other
    → slot_of slots (half_for halves place) ≡ slot_of slots (half_for halves other)
same_slot true slots place other long same = same
same_slot false slots place other long same = subst (λ (n : ℕ). slot_of n (2 * place) ≡ slot_of n (2 * other)) (sym long)
    (omega (
      arith,
      slot_mod place,
      slot_mod other,
      slot_mod (2 * place),
      slot_mod (2 * other),
      subst (λ (n : ℕ). slot_of n place ≡ slot_of n other) long same,
    ))

leaves_or_loads : (kind : Kind) → loads kind ≡ false → leaves kind ≡ true
leaves_or_loads Store none = refl
leaves_or_loads Fetch none = refl
leaves_or_loads Replace none = refl
leaves_or_loads FetchHalf none = refl
leaves_or_loads AddHalf none = refl
leaves_or_loads (Apply op) none = refl
leaves_or_loads Load none = absurd (cc)
leaves_or_loads LoadHalf none = absurd (cc)

to_other : (lanes : LaneRows) (site by : Site) (lane half : ℕ) → IsLoadedBy lanes site by lane
    → Touches lanes site lane half → Touches lanes by lane half
to_other lanes site by lane half loaded touches = (
  loaded.there,
  subst (λ (h : Bool). Covers h (place_of lanes by lane) half) (sym loaded.halves)
      (subst (λ (place : ℕ). Covers (is_of_halves site.kind) place half) (sym loaded.place) touches.1),
)

module _ (sites : List Site) (lanes : LaneRows) (halves : Bool) (stamps : List ℕ) (base count limit : ℕ)
    (loaded : AreLoaded sites lanes halves count) (few : limit ≤ count)
    (marked : LeaveMarks sites lanes stamps base count (length sites))
    (none : LoadNoGreater sites lanes stamps base count limit (length sites)) where
  abbrev pub site_at : (k : ℕ) (d : Site) → Site
  site_at k d = slice_index_or sites k d

  -- what a lane loads nothing left before
  none_before : (k : ℕ) (d : Site) → k < length sites → (i : ℕ) (e : Site) → i < length sites
      → (site_at k d).watched ≡ true → (site_at i e).watched ≡ true → loads (site_at k d).kind ≡ true
      → leaves (site_at i e).kind ≡ true → (lane earlier half : ℕ) → lane < limit → earlier < count
      → IsBefore earlier i lane k → Touches lanes (site_at k d) lane half → Touches lanes (site_at i e) earlier half → ⊥
  none_before k d inside i e within looked watched load left lane earlier half below under before touches touched =
      let one : Covers halves (place_of lanes (site_at k d) lane) half =
      subst (λ (h : Bool). Covers h (place_of lanes (site_at k d) lane) half) (loaded k d inside looked lane (omega (arith, below, few)) touches.0).size touches.1
      in
      let two : Covers halves (place_of lanes (site_at i e) earlier) half =
      subst (λ (h : Bool). Covers h (place_of lanes (site_at i e) earlier) half) (loaded i e within watched earlier under touched.0).size
      touched.1 in
      let same : place_of lanes (site_at k d) lane ≡ place_of lanes (site_at i e) earlier =
      same_place halves (place_of lanes (site_at k d) lane) (place_of lanes (site_at i e) earlier) half one two in
      let most : stamp_at stamps (place_of lanes (site_at i e) earlier)
      ≤ mark_at (top_at base (length sites) count k) (length sites) lane =
      subst (λ (place : ℕ). stamp_at stamps place
      ≤ mark_at (top_at base (length sites) count k) (length sites) lane) same
      (none k d inside looked load lane below touches.0) in
      let least = marked i e within watched left earlier under touched.0 in
      let order = mark_before base (length sites) count earlier i lane k (omega (arith, below, few)) inside within before
      in
      omega (arith, most, least, order)

  pub loaded_unmet : WatchedUnmet sites lanes limit
  loaded_unmet later earlier order below k d inside i e within looked watched left half touches touched =
      go (loads (site_at k d).kind) refl
    where
      under : earlier < count
      under = omega (arith, order, below, few)

      go : (load : Bool) → loads (site_at k d).kind ≡ load → (site_at i e).rank ≤ allowed (site_at k d)
      go true load = absurd (none_before k d inside i e within looked watched load left later earlier half below under
          (inl order) touches touched)
      go false load =
          let plain = (loaded k d inside looked later (omega (arith, below, few)) touches.0).loaded
          (leaves_or_loads (site_at k d).kind load) in
          let by = plain.loaded d in
          absurd (none_before plain.by d plain.within i e within by.watched watched by.loads_it left later earlier half
          below under (inl order) (to_other lanes (site_at k d) (site_at plain.by d) later half by touches) touched)

  pub loaded_own : (lane : ℕ) → lane < limit → AllPairs (WatchedOwn lanes lane) sites
  loaded_own lane below i j d order inside watched looked left load half touched touches =
      none_before j d inside i d (omega (arith, order, inside)) looked watched load left lane lane half below
      (omega (arith, below, few)) (inr (refl, order)) touches touched

pub loaded_meets : (sites : List Site) (lanes : LaneRows) (halves : Bool) (base count : ℕ)
    → AreLoaded sites lanes halves count → AreRanked sites → (stamps : List ℕ) (lane : ℕ) (e : Site)
    → length stamps ≡ 32768 → lane < count
    → AreMarks sites lanes stamps base count → LoadsGreater sites lanes stamps base count lane
    → Meets sites lanes (length stamps) lane
loaded_meets sites lanes halves base count loaded ranked stamps lane e long less known greater =
    let at : Site = slice_index_or sites greater.at e in
    let found : LoadsGreaterAt lanes stamps lane
    (mark_at (top_at base (length sites) count greater.at) (length sites) lane) at = greater.found e in
    let place : ℕ = place_of lanes at lane in
    let half : ℕ = half_for halves place in
    let over : base < mark_at (top_at base (length sites) count greater.at) (length sites) lane =
    mark_above base (length sites) count lane greater.at (omega (arith, less)) greater.within in
    let was : IsMark sites lanes (length stamps) base count (slot_of (length stamps) place) (stamp_at stamps place)
    = known (slot_of (length stamps) place) (omega (arith, over, found.finds.greater)) in
    let by : Site = slice_index_or sites was.by e in
    let left : IsMarkAt lanes (length stamps) count (top_at base (length sites) count was.by) (length sites) by
    (slot_of (length stamps) place) (stamp_at stamps place) = was.left e in
    let earlier : ℕ = left.mark.lane in
    let other : ℕ = half_for halves (place_of lanes by earlier) in
    let rank : 0 < by.rank = ranked.some was.by e was.within left.leaves_it in
    let free : allowed at ≡ 0 = ap (λ (b : Bool). if b then 0 else at.rank) found.loads_it in
    let exceeds : allowed at < by.rank = omega (arith, rank, free) in
    let marks : mark_at (top_at base (length sites) count greater.at) (length sites) lane
    < mark_at (top_at base (length sites) count was.by) (length sites) earlier =
    omega (arith, found.finds.greater, left.mark.marked) in
    let touches : Touches lanes at lane half = (
      found.finds.there,
      subst (λ (h : Bool). Covers h (place_of lanes at lane) half)
          (sym (loaded greater.at e greater.within found.watched lane less found.finds.there).size) (half_covers halves (place_of lanes at lane)),
    ) in
    let touched : Touches lanes by earlier other = (
      left.mark.is_slot.there,
      subst (λ (h : Bool). Covers h (place_of lanes by earlier) other)
          (sym (loaded was.by e was.within left.watched earlier left.mark.within left.mark.is_slot.there).size) (half_covers halves (place_of lanes by earlier)),
    ) in
    record {
      at = greater.at;
      by = was.by;
      earlier = earlier;
      half = half;
      other = other;
      at_within = greater.within;
      by_within = was.within;
      before = before_mark base (length sites) count earlier was.by lane greater.at greater.within was.within marks;
      touches = λ d. rw (← get_or_default sites greater.at e d greater.within) touches;
      touched = λ d. rw (← get_or_default sites was.by e d was.within) touched;
      leaves_it = λ d. (was.left d).leaves_it;
      same = same_slot halves (length stamps) place (place_of lanes by earlier) long (sym left.mark.is_slot.same);
      greater = λ d. rw (
        ← get_or_default sites greater.at e d greater.within,
        ← get_or_default sites was.by e d was.within,
      ) exceeds;
    }

-- a site further, lanes that go may be fewer
pub greater_more : (sites : List Site) (lanes : LaneRows) (stamps : List ℕ) (base count at old new : ℕ)
    (e : Site) → at < length sites → new ≤ old
    → (new < old → LoadsGreaterAt lanes stamps new (mark_at (top_at base (length sites) count at) (length sites)
    new) (slice_index_or sites at e))
    → (old < count → LoadsGreater sites lanes stamps base count old) → new < count
    → LoadsGreater sites lanes stamps base count new
greater_more sites lanes stamps base count at old new e inside few met before less = elim (cases_lt new old) [
  | inl now ↦ record {
    at = at;
    within = inside;
    found = λ d. rw (← get_or_default sites at e d inside) (met now);
  }
  | inr more ↦
      let same : old ≡ new = omega (arith, few, more) in
      subst (λ (n : ℕ). LoadsGreater sites lanes stamps base count n) same (before (omega (arith, same, less)))
]
