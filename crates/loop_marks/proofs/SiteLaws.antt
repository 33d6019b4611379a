-- Marks of lanes, site by site.
use Rattle.std.proofs.Common.{◌≡◌, ℕ, ◌*◌, ◌<◌, ◌≤◌, ◌==◌, ◌&&◌, ◌||◌, if◌then◌else◌, Bool, true, false, List, []}
use Rattle.std.proofs.Common.{◌∷◌, length, slice_index_or, refl, sym, subst, ◌∙◌, ap, arith, map, Option, Some}
use Rattle.std.proofs.{Common.{None}, Math.Bool.{and_comm, or-false, or_comm}, lemmas.List.Folds.{list_any_at}}
use Rattle.array_maps.specs.declared.access.Op.{Op}
use Rattle.loop_core_model.specs.declared.{access.Access.{Access as AccessKind}, loop_test.Test.TheVariants.{Flow}}
use Rattle.loop_core_model.specs.{Planes.{bit_of}, Effects.{Effect, EffectLog, effects_of, with_effect}}
use Rattle.lane_rows.specs.{declared.{mask.Mask.{Mask}, places.Places.{Places}}, Lanes.{MaskHas}}
use Rattle.lane_rows.specs.Rows.{is_in, place_at}
use Rattle.lane_stamps.specs.{declared.{kind.Kind.{Kind}, site.Site.{Site}}, Sites.{log_of}}
use Rattle.lane_stamps.specs.Sites.{IsWithin, LaneRows, effect_at, effect_by, effect_if, element_named, half_named}
use Rattle.lane_stamps.specs.Sites.{is_of_halves, mask_of, places_of, value_of}
use Rattle.shadow_marks.specs.declared.planes.{Planes.{Planes}, Tested.{Tested}}
use Rattle.shadow_marks.specs.declared.planes.Tested.TheVariants.{Lrpd as ByLrpd, Flow as ByFlow}
use Rattle.shadow_marks.specs.Standing.{ArePlanes, AreTested, IsBitPlane, plane_by, test_of}
use Rattle.loop_marks.specs.declared.by_site.{Elements.{Elements, TheVariants.{One, Run, Any}}, Reached.{Reached}}
use Rattle.loop_marks.specs.{Touches.{touch_by}, LaneMarks.{access_kind, lane_touches}}
use Rattle.loop_marks.specs.SiteMarks.{AddsNothing, AreBelow, AreElements, AreReached, Covers, EachMark, FlowKeeps}
use Rattle.loop_marks.specs.SiteMarks.{GoesWith, HaveNumbers, IsOne, IsRun, KeepsNumbers, SetsBits, SitesMarked}
use Rattle.loop_marks.specs.SiteMarks.{Touching, gets_at, over_lanes, reached_by, reaches, set_by_lane, touches_at}
use Rattle.loop_marks.specs.SiteMarks.{gets_to, is_touched_by, kept, kind_is_plain, kind_looks, kind_reduces_by}
use Rattle.loop_marks.{specs.SiteMarks.{kind_writes, touches_in}, proofs.LaneLaws.{kinds_are, shape_both}}
use Rattle.loop_marks.proofs.OverLaws.{kept_merges, over_alike, over_both, over_none, set_merges}

-- what a lane touches by accesses of one kind
touches_one : (holds : AccessKind → Bool) (kind : Kind) (mask : Mask) (places : Places) (values : ℕ → ℕ) (e lane : ℕ)
    → is_touched_by holds e (lane_touches (effect_if kind mask places values ∷ []) lane)
    ≡ (holds (access_kind kind) && gets_to (is_of_halves kind) mask places e lane)
touches_one holds kind mask places values e lane =
    go (is_in mask lane)
    ∙ ap (λ (k : AccessKind). holds k && gets_to (is_of_halves kind) mask places e lane)
    (sym (kinds_are kind (half_named (place_at places lane)) (values lane)))
  where
    effect : Effect
    effect = effect_by kind (place_at places lane) (values lane)

    go : (there : Bool) → is_touched_by holds e (map touch_by (with_effect (if there then Some effect else None) []))
        ≡ (holds (touch_by effect).kind
        && (there && (element_named (is_of_halves kind) (place_at places lane) == e)))
    go true = grind arith
    go false = grind arith

-- no lane gets to an element past the end
gets_none : (elements lanes : ℕ) (halves : Bool) (mask : Mask) (places : Places) (e : ℕ) → elements ≤ e
    → AreBelow elements lanes halves mask places → (lane : ℕ) → lane < lanes
    → gets_to halves mask places e lane ≡ false
gets_none elements lanes halves mask places e past below lane less =
    let low = below lane less in grind (arith, low, past)

set_plane : (elements lanes : ℕ) (done halves : Bool) (mask : Mask) (places : Places) (old new : List ℕ)
    → AreBelow elements lanes halves mask places → SetsBits (reaches halves mask places done) lanes old new
    → IsBitPlane elements old → IsBitPlane elements new
set_plane elements lanes done halves mask places old new below sets plane = record {
  count = sets.count ∙ plane.count;
  past = λ e past.
      sets.bits e
      ∙ over_none set_by_lane (λ lane. reaches halves mask places done e lane) lanes (bit_of old e)
      (λ lane less. ap (λ (b : Bool). b && done) (gets_none elements lanes halves mask places e past below lane less))
      ∙ plane.past e past;
}

-- numbers and words that are reached are there
more_elements : (elements count : ℕ) (reached : Reached) (lie : Elements) → elements ≤ count
    → AreElements elements lie reached.halves reached.mask.now reached.places.now reached.lanes
    → AreElements count lie reached.halves reached.mask.now reached.places.now reached.lanes
more_elements elements count reached (One at) more are = record {
  within = (let low = are.within in omega (arith, low, more));
  each = are.each;
}
more_elements elements count reached (Run by_halves first) more are = record {
  within = λ lane less. (let low = are.within lane less in omega (arith, low, more));
  small = are.small;
  each = are.each;
}
more_elements elements count reached Any more are = tt

pub more_reached : (elements count : ℕ) (reached : Reached) → elements ≤ count → AreReached elements reached
    → AreReached count reached
more_reached elements count reached more are = record {
  room = are.room;
  below = λ lane less there. (let low = are.below lane less there in omega (arith, low, more));
  first = are.first;
  last = are.last;
  elements = more_elements elements count reached reached.elements more are.elements;
}

pub words_reached : (elements : ℕ) (reached : Reached) (words : List ℕ) → IsBitPlane elements words
    → AreReached elements reached → AreReached (64 * length words) reached
words_reached elements reached words plane =
    more_reached elements (64 * length words) reached (let many = plane.count in omega (arith, many))

pub numbers_reached : (elements : ℕ) (reached : Reached) (tested : Tested) → test_of tested ≡ Flow
    → AreTested elements tested → AreReached elements reached → HaveNumbers reached tested
numbers_reached elements reached (ByFlow planes) flow are reach = (
  more_reached elements _ reached (let many = are.first in omega (arith, many)) reach,
  more_reached elements _ reached (let many = are.last in omega (arith, many)) reach,
)
numbers_reached elements reached (ByLrpd planes) flow are reach = absurd (cc)

-- lanes below a number that do the same
sets_alike : (does other : ℕ → ℕ → Bool) (lanes : ℕ) (old new : List ℕ)
    → ((e lane : ℕ) → lane < lanes → does e lane ≡ other e lane) → SetsBits does lanes old new
    → SetsBits other lanes old new
sets_alike does other lanes old new alike sets = record {
  count = sets.count;
  bits = λ e. sets.bits e ∙ over_alike set_by_lane (does e) (other e) lanes (bit_of old e) (alike e);
}

keeps_alike : (greatest : Bool) (does other : ℕ → ℕ → Bool) (lanes index : ℕ) (old new : List ℕ)
    → ((e lane : ℕ) → lane < lanes → does e lane ≡ other e lane) → KeepsNumbers greatest does lanes index old new
    → KeepsNumbers greatest other lanes index old new
keeps_alike greatest does other lanes index old new alike keeps = record {
  count = keeps.count;
  numbers = λ e. keeps.numbers e
      ∙ over_alike (kept greatest index) (does e) (other e) lanes (slice_index_or old e 0) (alike e);
}

-- how elements lie where it is known
lie_so : (count : ℕ) (reached : Reached) (lie : Elements) → reached.elements ≡ lie → AreReached count reached
    → AreElements count lie reached.halves reached.mask.now reached.places.now reached.lanes
lie_so count reached lie is are =
    subst (λ (l : Elements). AreElements count l reached.halves reached.mask.now reached.places.now reached.lanes)
    is are.elements

pub one_reached : (count at : ℕ) (reached : Reached) → reached.elements ≡ One at → AreReached count reached
    → IsOne count at reached.halves reached.mask.now reached.places.now reached.lanes
one_reached count at reached is are = lie_so count reached (One at) is are

pub run_reached : (count : ℕ) (by_halves : Bool) (first : ℕ) (reached : Reached)
    → reached.elements ≡ Run by_halves first → AreReached count reached
    → IsRun count by_halves first reached.halves reached.mask.now reached.places.now reached.lanes
run_reached count by_halves first reached is are = lie_so count reached (Run by_halves first) is are

module _ (reached : Reached) (done : Bool) where
  -- if nothing is done, all stays
  none_reached : done ≡ false → (e lane : ℕ) → lane < reached.lanes → reached_by reached done e lane ≡ false
  none_reached none e lane less =
      and_comm (gets_to reached.halves reached.mask.now reached.places.now e lane) done
      ∙ ap (λ (b : Bool). b && gets_to reached.halves reached.mask.now reached.places.now e lane) none

  pub none_set : (words : List ℕ) → done ≡ false → SetsBits (reached_by reached done) reached.lanes words words
  none_set words none = record {
    count = refl;
    bits = λ e. sym (over_none set_by_lane _ reached.lanes (bit_of words e) (none_reached none e));
  }

  pub none_kept : (greatest : Bool) (index : ℕ) (numbers : List ℕ) → done ≡ false
      → KeepsNumbers greatest (reached_by reached done) reached.lanes index numbers numbers
  none_kept greatest index numbers none = record {
    count = refl;
    numbers = λ e. sym (over_none (kept greatest index) _ reached.lanes (slice_index_or numbers e 0)
        (none_reached none e));
  }

  -- what lanes do is known, if something is done
  done_reached : (does : ℕ → ℕ → Bool) → done ≡ true
      → ((e lane : ℕ) → lane < reached.lanes
      → gets_to reached.halves reached.mask.now reached.places.now e lane ≡ does e lane)
      → (e lane : ℕ) → lane < reached.lanes → does e lane ≡ reached_by reached done e lane
  done_reached does all is e lane less =
      sym (and_comm (gets_to reached.halves reached.mask.now reached.places.now e lane) done
      ∙ ap (λ (b : Bool). b && gets_to reached.halves reached.mask.now reached.places.now e lane) all
      ∙ is e lane less)

  pub some_set : (does : ℕ → ℕ → Bool) (old new : List ℕ) → done ≡ true
      → ((e lane : ℕ) → lane < reached.lanes
      → gets_to reached.halves reached.mask.now reached.places.now e lane ≡ does e lane)
      → SetsBits does reached.lanes old new → SetsBits (reached_by reached done) reached.lanes old new
  some_set does old new all is =
      sets_alike does (reached_by reached done) reached.lanes old new (done_reached does all is)

  pub some_kept : (does : ℕ → ℕ → Bool) (greatest : Bool) (index : ℕ) (old new : List ℕ) → done ≡ true
      → ((e lane : ℕ) → lane < reached.lanes
      → gets_to reached.halves reached.mask.now reached.places.now e lane ≡ does e lane)
      → KeepsNumbers greatest does reached.lanes index old new
      → KeepsNumbers greatest (reached_by reached done) reached.lanes index old new
  some_kept does greatest index old new all is =
      keeps_alike greatest does (reached_by reached done) reached.lanes index old new (done_reached does all is)

-- planes whose numbers were kept
keeps_whole : (does : Touching) (lanes index elements : ℕ) (old new : Tested) → FlowKeeps does lanes index old new
    → AreTested elements old → AreTested elements new
keeps_whole does lanes index elements (ByFlow old) (ByFlow new) keeps are = record {
  first = keeps.0.count ∙ are.first;
  last = keeps.1.count ∙ are.last;
}
keeps_whole does lanes index elements (ByFlow old) (ByLrpd new) keeps are = absurd keeps
keeps_whole does lanes index elements (ByLrpd old) (ByFlow new) keeps are = absurd keeps
keeps_whole does lanes index elements (ByLrpd old) (ByLrpd new) keeps are = absurd keeps

keeps_test : (does : Touching) (lanes index : ℕ) (old new : Tested) → FlowKeeps does lanes index old new
    → test_of new ≡ test_of old
keeps_test does lanes index (ByFlow old) (ByFlow new) keeps = refl
keeps_test does lanes index (ByFlow old) (ByLrpd new) keeps = absurd keeps
keeps_test does lanes index (ByLrpd old) (ByFlow new) keeps = absurd keeps
keeps_test does lanes index (ByLrpd old) (ByLrpd new) keeps = absurd keeps

-- one site, and then others
touches_both : (holds : AccessKind → Bool) (e : ℕ) (site : ℕ → Option Effect) (rest : EffectLog) (lane : ℕ)
    → is_touched_by holds e (lane_touches (site ∷ rest) lane)
    ≡ (is_touched_by holds e (lane_touches (site ∷ []) lane) || is_touched_by holds e (lane_touches rest lane))
touches_both holds e site rest lane = go (site lane)
  where
    others : Bool
    others = is_touched_by holds e (lane_touches rest lane)

    go : (done : Option Effect) → is_touched_by holds e (map touch_by (with_effect done (effects_of rest lane)))
        ≡ (is_touched_by holds e (map touch_by (with_effect done [])) || others)
    go None = refl
    go (Some effect) =
        ap (λ (b : Bool). b || others)
        (sym (or-false (((touch_by effect).element == e) && holds (touch_by effect).kind)))

-- what a lane touches at sites is what it touches by their log
pub touched_is : (rows : LaneRows) (holds : AccessKind → Bool) (e lane : ℕ) (sites : List Site)
    → is_touched_by holds e (lane_touches (log_of sites rows) lane) ≡ touches_in rows sites holds e lane
touched_is rows holds e lane [] = refl
touched_is rows holds e lane (site ∷ sites) =
    let one = touches_one holds site.kind (mask_of rows site) (places_of rows site) (value_of rows site) e lane in
    let both = touches_both holds e (effect_at rows site) (log_of sites rows) lane in
    let others = touched_is rows holds e lane sites in
    let turned = and_comm (gets_at rows e lane site) (holds (access_kind site.kind)) in
    both ∙ ap (λ (b : Bool). b || is_touched_by holds e (lane_touches (log_of sites rows) lane)) (one ∙ sym turned)
    ∙ ap (λ (b : Bool). touches_at rows site holds e lane || b) others

-- lanes do what they do at one site after what they do at others
module _ (rest one both : Touching) (index lanes : ℕ) where
  abbrev Joins : (holds : AccessKind → Bool) → Type 0
  Joins holds = (e lane : ℕ) → lane < lanes → both holds e lane ≡ (rest holds e lane || one holds e lane)

  sets_next : (holds : AccessKind → Bool) (old mid new : List ℕ) → Joins holds → SetsBits (rest holds) lanes old mid
      → SetsBits (one holds) lanes mid new → SetsBits (both holds) lanes old new
  sets_next holds old mid new joins first then_ = record {
    count = then_.count ∙ first.count;
    bits = λ e. then_.bits e ∙ ap (over_lanes set_by_lane (one holds e) lanes) (first.bits e)
        ∙ over_both set_by_lane set_merges (rest holds e) (one holds e) (both holds e) lanes (bit_of old e) (joins e);
  }

  keeps_next : (greatest : Bool) (holds : AccessKind → Bool) (old mid new : List ℕ) → Joins holds
      → KeepsNumbers greatest (rest holds) lanes index old mid → KeepsNumbers greatest (one holds) lanes index mid new
      → KeepsNumbers greatest (both holds) lanes index old new
  keeps_next greatest holds old mid new joins first then_ = record {
    count = then_.count ∙ first.count;
    numbers = λ e. then_.numbers e ∙ ap (over_lanes (kept greatest index) (one holds e) lanes) (first.numbers e)
        ∙ over_both (kept greatest index) (kept_merges greatest index) (rest holds e) (one holds e) (both holds e) lanes
        (slice_index_or old e 0) (joins e);
  }

  tested_next : (old mid new : Tested) → EachMark Joins → FlowKeeps rest lanes index old mid
      → FlowKeeps one lanes index mid new → FlowKeeps both lanes index old new
  tested_next (ByFlow old) (ByFlow mid) (ByFlow new) joins first then_ = (
    keeps_next false kind_writes _ _ _ joins.writes first.0 then_.0,
    keeps_next true kind_looks _ _ _ joins.looks first.1 then_.1,
  )
  tested_next (ByFlow old) (ByFlow mid) (ByLrpd new) joins first then_ = absurd then_
  tested_next (ByFlow old) (ByLrpd mid) new joins first then_ = absurd first
  tested_next (ByLrpd old) (ByFlow mid) new joins first then_ = absurd first
  tested_next (ByLrpd old) (ByLrpd mid) new joins first then_ = absurd first

  sites_next : (old mid new : Planes) → EachMark Joins → SitesMarked rest index lanes old mid
      → SitesMarked one index lanes mid new → SitesMarked both index lanes old new
  sites_next old mid new joins first then_ = record {
    shape = shape_both old mid new first.shape then_.shape;
    plain = sets_next kind_is_plain _ _ _ joins.plain first.plain then_.plain;
    by = λ op. sets_next (kind_reduces_by op) _ _ _ (joins.by op) (first.by op) (then_.by op);
    tested = tested_next old.tested mid.tested new.tested joins first.tested then_.tested;
  }

-- where no lane does anything nothing is marked
module _ (does : Touching) (index lanes : ℕ)
    (none : (holds : AccessKind → Bool) (e lane : ℕ) → lane < lanes → does holds e lane ≡ false) where
  none_keeps : (greatest : Bool) (holds : AccessKind → Bool) (numbers : List ℕ)
      → KeepsNumbers greatest (does holds) lanes index numbers numbers
  none_keeps greatest holds numbers = record {
    count = refl;
    numbers = λ e. sym (over_none (kept greatest index) _ lanes (slice_index_or numbers e 0) (none holds e));
  }

  none_sets : (holds : AccessKind → Bool) (words : List ℕ) → SetsBits (does holds) lanes words words
  none_sets holds words = record {
    count = refl;
    bits = λ e. sym (over_none set_by_lane _ lanes (bit_of words e) (none holds e));
  }

  tested_same : (tested : Tested) → test_of tested ≡ Flow → FlowKeeps does lanes index tested tested
  tested_same (ByFlow planes) flow = (none_keeps false kind_writes _, none_keeps true kind_looks _)
  tested_same (ByLrpd planes) flow = absurd (cc)

  pub unmarked : (now : Planes) → ArePlanes now → test_of now.tested ≡ Flow → SitesMarked does index lanes now now
  unmarked now are flow = record {
    shape = record { whole = are; elements = refl; test = refl };
    plain = none_sets kind_is_plain _;
    by = λ op. none_sets (kind_reduces_by op) _;
    tested = tested_same now.tested flow;
  }

-- what is so of each mark
each_mark : (P Q : (AccessKind → Bool) → Type 0) → ((holds : AccessKind → Bool) → P holds → Q holds) → EachMark P
    → EachMark Q
each_mark P Q so each = record {
  writes = so kind_writes each.writes;
  looks = so kind_looks each.looks;
  plain = so kind_is_plain each.plain;
  by = λ op. so (kind_reduces_by op) (each.by op);
}

-- one site more
module _ (rows : LaneRows) (site : Site) (others : List Site) (index lanes : ℕ) (before old new : Planes)
    (marked : SitesMarked (touches_in rows others) index lanes before old) where
  marks_next : SitesMarked (touches_at rows site) index lanes old new
      → SitesMarked (touches_in rows (site ∷ others)) index lanes before new
  marks_next = sites_next (touches_in rows others) (touches_at rows site) (touches_in rows (site ∷ others)) index lanes
      before old new (record {
        writes = turned kind_writes;
        looks = turned kind_looks;
        plain = turned kind_is_plain;
        by = λ op. turned (kind_reduces_by op);
      }) marked
    where
      turned : (holds : AccessKind → Bool) (e lane : ℕ) → lane < lanes
          → touches_in rows (site ∷ others) holds e lane
          ≡ (touches_in rows others holds e lane || touches_at rows site holds e lane)
      turned holds e lane less = or_comm (touches_at rows site holds e lane) (touches_in rows others holds e lane)

  -- planes that took its accesses have its marks
  pub marks_made : (access : AccessKind) (plain halves : Bool) → access ≡ access_kind site.kind
      → plain ≡ kind_is_plain access → halves ≡ is_of_halves site.kind → ArePlanes old
      → IsWithin old.elements lanes rows site → new.elements ≡ old.elements
      → SetsBits (reaches halves (mask_of rows site) (places_of rows site) plain) lanes old.plain.items new.plain.items
      → ((op : Op) → SetsBits (reaches halves (mask_of rows site) (places_of rows site) (kind_reduces_by op access))
      lanes (plane_by old.operators op) (plane_by new.operators op))
      → FlowKeeps (λ holds. reaches halves (mask_of rows site) (places_of rows site) (holds access)) lanes index
      old.tested new.tested
      → SitesMarked (touches_in rows (site ∷ others)) index lanes before new
  marks_made access plain halves is is_plain same are below elements sets by keeps =
      let mask = mask_of rows site in
      let places = places_of rows site in
      let does : Touching = λ holds. reaches halves mask places (holds access) in
      let made : SitesMarked does index lanes old new = record {
        shape = record {
          whole = rw elements (record {
            plain = set_plane old.elements lanes plain halves mask places _ _ (rw same below) sets are.plain;
            by = λ op. set_plane old.elements lanes (kind_reduces_by op access) halves mask places _ _ (rw same below)
                (by op) (are.by op);
            tested = keeps_whole does lanes index old.elements old.tested new.tested keeps are.tested;
          });
          elements = elements;
          test = keeps_test does lanes index old.tested new.tested keeps;
        };
        plain = subst (λ (b : Bool). SetsBits (reaches halves mask places b) lanes old.plain.items new.plain.items)
            is_plain sets;
        by = by;
        tested = keeps;
      } in
      marks_next (subst (λ (k : AccessKind). SitesMarked (λ holds. reaches (is_of_halves site.kind) mask places
      (holds k)) index lanes old new) is (subst (λ (h : Bool). SitesMarked (λ holds. reaches h mask places
      (holds access)) index lanes old new) same made))

-- a site that adds nothing: no lane gets there, or others cover it
module _ (rows : LaneRows) (site : Site) (others : List Site) (index lanes : ℕ) (before now : Planes)
    (are : ArePlanes now) (flow : test_of now.tested ≡ Flow)
    (marked : SitesMarked (touches_in rows others) index lanes before now) where
  pub marks_none : MaskHas lanes (λ _. false) (mask_of rows site)
      → SitesMarked (touches_in rows (site ∷ others)) index lanes before now
  marks_none none = marks_next rows site others index lanes before now now marked
      (unmarked (touches_at rows site) index lanes (λ holds e lane less. ap (λ (b : Bool).
      (b && (element_named (is_of_halves site.kind) (place_at (places_of rows site) lane) == e))
      && holds (access_kind site.kind)) (none lane less)) now are flow)

  pub marks_same : EachMark (AddsNothing rows lanes (access_kind site.kind) site others)
      → SitesMarked (touches_in rows (site ∷ others)) index lanes before now
  marks_same covered =
      sites_next (touches_in rows others) (λ holds e lane. false) (touches_in rows (site ∷ others)) index lanes before
      now now (each_mark (AddsNothing rows lanes (access_kind site.kind) site others) _
      (λ holds adds e lane less. nothing (gets_at rows e lane site) (holds (access_kind site.kind)) _
      (adds e lane less)) covered) marked (unmarked (λ holds e lane. false) index lanes (λ holds e lane less. refl) now
      are flow)
    where
      nothing : (gets does there : Bool) → (gets ≡ true → does ≡ true → there ≡ true)
          → ((gets && does) || there) ≡ (there || false)
      nothing true true there is = sym (ap (λ (b : Bool). b || false) (is refl refl))
      nothing true false there is = sym (or-false there)
      nothing false does there is = sym (or-false there)

-- accesses that are covered
pub covered_at : (rows : LaneRows) (lanes : ℕ) (access : AccessKind) (site : Site) (others : List Site) (k : ℕ)
    (d : Site) → k < length others → GoesWith rows lanes site (slice_index_or others k d)
    → Covers (access_kind (slice_index_or others k d).kind) access
    → EachMark (AddsNothing rows lanes access site others)
covered_at rows lanes access site others k d inside goes =
    each_mark _ (AddsNothing rows lanes access site others) (λ holds so e lane less there does.
    list_any_at (λ s. touches_at rows s holds e lane) others k d inside
    (let gets = goes e lane less there in let holds_too = so does in grind (arith, gets, holds_too)))
