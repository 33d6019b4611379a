-- Lanes that look nowhere where they stored before: their marks are those of their touches in any order.
use Rattle.std.proofs.Common.{◌≡◌, ℕ, zero, suc, ◌+◌, ◌<◌, ◌≤◌, ◌==◌, ◌&&◌, ◌||◌, not, if◌then◌else◌, min, max, Bool}
use Rattle.std.proofs.Common.{true, false, List, [], ◌∷◌, length, take, drop, refl, sym, subst, ◌∙◌, ap}
use Rattle.std.proofs.{Common.{arith, map, Option, Some, None}, Math.Bool.{or_assoc, or-false}}
use Rattle.std.proofs.lemmas.List.{drop_all, drop_more, Folds.{list_any_more}}
use Rattle.array_maps.specs.{declared.access.Op.{Op}, Accesses.{Access, actions_at}}
use Rattle.loop_core_model.specs.declared.access.Access.{Access as AccessKind, TheVariants.{Read, Write, Both, Reduce}}
use Rattle.loop_core_model.specs.{Flags.{Flags, flags_of, flagged, no_flags}, LeastBreak.{lesser}}
use Rattle.loop_core_model.specs.Marks.{Marks, Visit, first_number, marks_of, marks_of_one, merged}
use Rattle.loop_core_model.{proofs.MarkLaws.{marks_merge}, specs.Effects.{Effect, effects_of, with_effect}}
use Rattle.lane_stamps.specs.declared.{kind.Kind.TheVariants.{Load}, site.Site.{Site}}
use Rattle.lane_stamps.specs.Sites.{LaneRows, done_by, has, half_named, log_of, place_of, value_of}
use Rattle.shadow_marks.specs.{declared.planes.{Planes.{Planes}, Tested.{Tested}}, Standing.{StandAt, TestedStandAt}}
use Rattle.shadow_marks.specs.declared.planes.Tested.TheVariants.{Lrpd as ByLrpd, Flow as ByFlow}
use Rattle.loop_marks.specs.{Touches.{Touch, flags_after, touch_by}, Visits.{visits_below}}
use Rattle.loop_marks.specs.LaneMarks.{LanesMarked, LanesTouch, access_kind, lane_touches}
use Rattle.loop_marks.specs.SiteMarks.{AreUnseen, FlowKeeps, IsApart, SitesMarked, gets_at, is_touched_by, kept}
use Rattle.loop_marks.specs.SiteMarks.{touches_at, touches_in}
use Rattle.loop_marks.specs.SiteMarks.{kind_is_plain, kind_looks, kind_reduces_by, kind_writes, over_lanes, set_by_lane}
use Rattle.loop_marks.proofs.{LaneLaws.{flags_more, kinds_are}, SiteLaws.{touched_is}}

-- a lane doesn't look at an element at a site that is apart from one where it gets to it
pub untouched_apart : (rows : LaneRows) (e lane : ℕ) (site other : Site)
    → (kind_looks (access_kind other.kind) ≡ true → IsApart rows lane site other) → gets_at rows e lane site ≡ true
    → touches_at rows other kind_looks e lane ≡ false
untouched_apart rows e lane site other apart there = grind (arith, apart, there)

-- flags that each touch sets by itself
part_after : (part : Flags → Bool) (holds : AccessKind → Bool)
    → ((flags : Flags) (kind : AccessKind) → part (flagged flags kind) ≡ (part flags || holds kind))
    → (flags : Flags) (e : ℕ) (touches : List Touch)
    → part (flags_after flags e touches) ≡ (part flags || is_touched_by holds e touches)
part_after part holds law flags e [] = sym (or-false (part flags))
part_after part holds law flags e (touch ∷ touches) =
    go (touch.element == e) (λ now. part_after part holds law now e touches)
  where
    rest : Bool
    rest = is_touched_by holds e touches

    go : (b : Bool) → ((now : Flags) → part (flags_after now e touches) ≡ (part now || rest))
        → part (flags_after (if b then flagged flags touch.kind else flags) e touches)
        ≡ (part flags || ((b && holds touch.kind) || rest))
    go true more = more (flagged flags touch.kind) ∙ ap (λ (b : Bool). b || rest) (law flags touch.kind)
        ∙ or_assoc (part flags) (holds touch.kind) rest
    go false more = more flags

or_true : (b : Bool) → (b || true) ≡ true
or_true true = refl
or_true false = refl

writes_law : (flags : Flags) (kind : AccessKind) → (flagged flags kind).wrote ≡ (flags.wrote || kind_writes kind)
writes_law flags Read = sym (or-false flags.wrote)
writes_law flags Write = sym (or_true flags.wrote)
writes_law flags Both = sym (or_true flags.wrote)
writes_law flags (Reduce op) = sym (or_true flags.wrote)

plain_law : (flags : Flags) (kind : AccessKind) → (flagged flags kind).plain ≡ (flags.plain || kind_is_plain kind)
plain_law flags Read = sym (or_true flags.plain)
plain_law flags Write = sym (or_true flags.plain)
plain_law flags Both = sym (or_true flags.plain)
plain_law flags (Reduce op) = sym (or-false flags.plain)

by_law : (op : Op) (flags : Flags) (kind : AccessKind)
    → (flagged flags kind).by op ≡ (flags.by op || kind_reduces_by op kind)
by_law op flags Read = sym (or-false (flags.by op))
by_law op flags Write = sym (or-false (flags.by op))
by_law op flags Both = sym (or-false (flags.by op))
by_law op flags (Reduce other) = refl

-- a look counts where nothing was written, or it had looked before
looks_law : (flags : Flags) (kind : AccessKind) → kind_looks kind ≡ true
    → (flagged flags kind).looked ≡ (flags.looked || not flags.wrote)
looks_law flags Read looks = refl
looks_law flags Write looks = absurd (cc)
looks_law flags Both looks = refl
looks_law flags (Reduce op) looks = refl

unlooked_law : (flags : Flags) (kind : AccessKind) → kind_looks kind ≡ false
    → (flagged flags kind).looked ≡ flags.looked
unlooked_law flags Read looks = absurd (cc)
unlooked_law flags Write looks = refl
unlooked_law flags Both looks = absurd (cc)
unlooked_law flags (Reduce op) looks = absurd (cc)

module _ (rows : LaneRows) (lanes e lane : ℕ) (below : lane < lanes) where
  -- the lane looks at no element that it stored before, and hadn't looked at till more
  abbrev SeesNoWrite : (seen : Bool) → List Site → Type 0
  SeesNoWrite seen [] = Unit {0}
  SeesNoWrite seen (site ∷ sites) =
      (kind_looks (access_kind site.kind) ≡ false → gets_at rows e lane site ≡ true → seen ≡ false
      → touches_in rows sites kind_looks e lane ≡ false)
      × SeesNoWrite (seen || touches_at rows site kind_looks e lane) sites

  sees_no_write : (sites : List Site) → AreUnseen rows lanes sites → (n k : ℕ) → length sites ≡ k + n
      → SeesNoWrite (touches_in rows (take k sites) kind_looks e lane) (drop k sites)
  sees_no_write sites unseen zero k all = rw (drop_all k sites (omega (arith, all))) tt
  sees_no_write sites unseen (suc n) k all =
      let d : Site = record { kind = Load; rank = 0; watched = false; mask = 0; places = 0; value = 0 } in
      let inside : k < length sites = omega (arith, all) in
      rw (drop_more sites k d inside) (
        (λ blind gets. unseen k d inside blind e lane below gets),
        subst (λ (seen : Bool). SeesNoWrite seen (drop (k + 1) sites))
            (list_any_more (λ site. touches_at rows site kind_looks e lane) sites k d inside)
            (sees_no_write sites unseen n (k + 1) (omega (arith, all))),
      )

  looked_after : (sites : List Site) (flags : Flags) (seen : Bool) → flags.looked ≡ seen → SeesNoWrite seen sites
      → (flags.wrote ≡ true → seen ≡ false → touches_in rows sites kind_looks e lane ≡ false)
      → (flags_after flags e (lane_touches (log_of sites rows) lane)).looked
      ≡ (seen || touches_in rows sites kind_looks e lane)
  looked_after [] flags seen is sees may = is ∙ sym (or-false seen)
  looked_after (site ∷ sites) flags seen is sees may =
      go (has rows site lane) sees.0 may (λ now law none. looked_after sites now _ law sees.1 none)
    where
      rest : Bool
      rest = touches_in rows sites kind_looks e lane

      kind : AccessKind
      kind = access_kind site.kind

      effect : Effect
      effect = done_by rows site lane

      after : Flags → Bool
      after now = (flags_after now e (lane_touches (log_of sites rows) lane)).looked

      -- what is so after the site, where the lane looks at the element there, or doesn't
      Then : (looks : Bool) → Type 0
      Then looks = (now : Flags) → now.looked ≡ (seen || looks)
          → (now.wrote ≡ true → (seen || looks) ≡ false → rest ≡ false) → after now ≡ ((seen || looks) || rest)

      -- a look that counts, as no write without one came before
      counts : (wrote seen : Bool) → (wrote ≡ true → seen ≡ false → true ≡ false) → (seen || not wrote) ≡ true
      counts true true none = refl
      counts true false none = sym (none refl refl)
      counts false true none = refl
      counts false false none = refl

      there_by : (looks : Bool) → kind_looks kind ≡ looks → (looks ≡ false → seen ≡ false → rest ≡ false)
          → (flags.wrote ≡ true → seen ≡ false → (looks || rest) ≡ false) → Then looks
          → after (flagged flags kind) ≡ (seen || (looks || rest))
      there_by true looks blind none more =
          more (flagged flags kind)
          (looks_law flags kind looks ∙ ap (λ (b : Bool). b || not flags.wrote) is ∙ counts flags.wrote seen none
          ∙ sym (or_true seen))
          (λ wrote unseen. absurd (cc (sym (or_true seen) ∙ unseen)))
          ∙ or_assoc seen true rest
      there_by false looks blind none more =
          more (flagged flags kind) (unlooked_law flags kind looks ∙ is ∙ sym (or-false seen))
          (λ wrote unseen. blind refl (sym (or-false seen) ∙ unseen))
          ∙ or_assoc seen false rest

      at : (gets : Bool) → (kind_looks kind ≡ false → gets ≡ true → seen ≡ false → rest ≡ false)
          → (flags.wrote ≡ true → seen ≡ false → ((gets && kind_looks kind) || rest) ≡ false)
          → Then (gets && kind_looks kind)
          → after (if gets then flagged flags kind else flags) ≡ (seen || ((gets && kind_looks kind) || rest))
      at true blind none more = there_by (kind_looks kind) refl (λ looks. blind looks refl) none more
      at false blind none more =
          more flags (is ∙ sym (or-false seen)) (λ wrote unseen. none wrote (sym (or-false seen) ∙ unseen))
          ∙ or_assoc seen false rest

      go : (there : Bool) → (kind_looks kind ≡ false → (there && (effect.element == e)) ≡ true → seen ≡ false
          → rest ≡ false)
          → (flags.wrote ≡ true → seen ≡ false
          → (((there && (effect.element == e)) && kind_looks kind) || rest) ≡ false)
          → Then ((there && (effect.element == e)) && kind_looks kind)
          → (flags_after flags e (map touch_by (with_effect (if there then Some effect else None)
          (effects_of (log_of sites rows) lane)))).looked
          ≡ (seen || (((there && (effect.element == e)) && kind_looks kind) || rest))
      go true blind none more =
          ap (λ (k : AccessKind). after (if effect.element == e then flagged flags k else flags))
          (sym (kinds_are site.kind (half_named (place_of rows site lane)) (value_of rows site lane)))
          ∙ at (effect.element == e) blind none more
      go false blind none more = at false blind none more

  pub looked_by : (sites : List Site) → AreUnseen rows lanes sites
      → (flags_after no_flags e (lane_touches (log_of sites rows) lane)).looked
      ≡ touches_in rows sites kind_looks e lane
  looked_by sites unseen =
      looked_after sites no_flags false refl (sees_no_write sites unseen (length sites) 0 (omega arith))
      (λ wrote. absurd (cc))

-- marks after a lane
pub or_if : (does before : Bool) → (if does then true else before) ≡ (before || does)
or_if true true = refl
or_if true false = refl
or_if false true = refl
or_if false false = refl

first_more : (writes : Bool) (first : Option ℕ) (index : ℕ) → index < 4294967295
    → (if writes then min (first_number first) index else first_number first)
    ≡ first_number (lesser first (if writes then Some index else None))
first_more true None index small = let e : min 4294967295 index ≡ index = omega arith in e
first_more true (Some first) index small = refl
first_more false None index small = refl
first_more false (Some first) index small = refl

last_more : (looks : Bool) (last index : ℕ)
    → (if looks then max last (index + 1) else last) ≡ max last (if looks then index + 1 else 0)
last_more true last index = refl
last_more false last index = let e : last ≡ max last 0 = omega arith in e

module _ (rows : LaneRows) (sites : List Site) (index lanes : ℕ) (made : ℕ → List Access)
    (touch : LanesTouch (log_of sites rows) index lanes made) (unseen : AreUnseen rows lanes sites) (e : ℕ) where
  abbrev marks_at : ℕ → Marks
  marks_at n = marks_of (visits_below made (index + n) e)

  abbrev flags_by : ℕ → Flags
  flags_by lane = flags_after no_flags e (lane_touches (log_of sites rows) lane)

  abbrev does : (AccessKind → Bool) → ℕ → Bool
  does holds lane = touches_in rows sites holds e lane

  flag_by : (part : Flags → Bool) (holds : AccessKind → Bool)
      → ((flags : Flags) (kind : AccessKind) → part (flagged flags kind) ≡ (part flags || holds kind))
      → part no_flags ≡ false → (lane : ℕ) → part (flags_by lane) ≡ does holds lane
  flag_by part holds law none lane =
      part_after part holds law no_flags e (lane_touches (log_of sites rows) lane)
      ∙ ap (λ (b : Bool). b || is_touched_by holds e (lane_touches (log_of sites rows) lane)) none
      ∙ touched_is rows holds e lane sites

  marks_first : marks_at 0 ≡ marks_of (visits_below made index e)
  marks_first = let same : index + 0 ≡ index = omega arith in
      ap (λ (n : ℕ). marks_of (visits_below made n e)) same

  marks_next : (n : ℕ) → n < lanes → marks_at (suc n) ≡ merged (marks_at n) (marks_of_one (index + n) (flags_by n))
  marks_next n less =
      let next : index + suc n ≡ suc (index + n) = omega arith in
      let visit : Visit = record { index = index + n; actions = actions_at e (made (index + n)) } in
      let same : flags_by n ≡ flags_of (actions_at e (made (index + n))) =
      ap (flags_after no_flags e) (sym (touch n less)) ∙ flags_more [] e (made (index + n)) in
      ap (λ (m : ℕ). marks_of (visits_below made m e)) next
      ∙ marks_merge.both (visits_below made (index + n) e) (visit ∷ [])
      ∙ ap (merged (marks_at n)) (marks_merge.one visit ∙ ap (marks_of_one (index + n)) (sym same))

  -- bits, and numbers
  bit_after : (part : Marks → Bool) (of_flags : Flags → Bool) (holds : AccessKind → Bool)
      → ((a : Marks) (i : ℕ) (f : Flags) → part (merged a (marks_of_one i f)) ≡ (part a || of_flags f))
      → ((lane : ℕ) → lane < lanes → of_flags (flags_by lane) ≡ does holds lane)
      → (old : Bool) → old ≡ part (marks_at 0)
      → (n : ℕ) → n ≤ lanes → over_lanes set_by_lane (does holds) n old ≡ part (marks_at n)
  bit_after part of_flags holds law flags old start zero few = start
  bit_after part of_flags holds law flags old start (suc n) few =
      or_if (does holds n) (over_lanes set_by_lane (does holds) n old)
      ∙ ap (λ (b : Bool). b || does holds n)
      (bit_after part of_flags holds law flags old start n (omega (arith, few)))
      ∙ ap (λ (b : Bool). part (marks_at n) || b) (sym (flags n (omega (arith, few))))
      ∙ sym (law (marks_at n) (index + n) (flags_by n)) ∙ sym (ap part (marks_next n (omega (arith, few))))

  first_after : index + lanes ≤ 4294967295 → (old : ℕ) → old ≡ first_number (marks_at 0).first
      → (n : ℕ) → n ≤ lanes → over_lanes (kept false index) (does kind_writes) n old ≡ first_number (marks_at n).first
  first_after small old start zero few = start
  first_after small old start (suc n) few =
      ap (λ (number : ℕ). if does kind_writes n then min number (index + n) else number)
      (first_after small old start n (omega (arith, few)))
      ∙ first_more (does kind_writes n) (marks_at n).first (index + n) (omega (arith, few, small))
      ∙ ap (λ (b : Bool). first_number (lesser (marks_at n).first (if b then Some (index + n) else None)))
      (sym (flag_by (λ f. f.wrote) kind_writes writes_law refl n))
      ∙ sym (ap (λ (m : Marks). first_number m.first) (marks_next n (omega (arith, few))))

  last_after : (old : ℕ) → old ≡ (marks_at 0).last
      → (n : ℕ) → n ≤ lanes → over_lanes (kept true index) (does kind_looks) n old ≡ (marks_at n).last
  last_after old start zero few = start
  last_after old start (suc n) few =
      ap (λ (number : ℕ). if does kind_looks n then max number (index + n + 1) else number)
      (last_after old start n (omega (arith, few)))
      ∙ last_more (does kind_looks n) (marks_at n).last (index + n)
      ∙ ap (λ (b : Bool). max (marks_at n).last (if b then index + n + 1 else 0))
      (sym (looked_by rows lanes e n (omega (arith, few)) sites unseen))
      ∙ sym (ap (λ (m : Marks). m.last) (marks_next n (omega (arith, few))))

  tested_after : index + lanes ≤ 4294967295 → (old new : Tested) → FlowKeeps (touches_in rows sites) lanes index old new
      → TestedStandAt old e (marks_of (visits_below made index e)) → TestedStandAt new e (marks_at lanes)
  tested_after small (ByFlow old) (ByFlow new) marked stand = record {
    first = marked.0.numbers e ∙ first_after small _ (stand.first ∙ sym (ap (λ (m : Marks). first_number m.first)
        marks_first)) lanes (omega arith);
    last = marked.1.numbers e ∙ last_after _ (stand.last ∙ sym (ap (λ (m : Marks). m.last) marks_first)) lanes
        (omega arith);
  }
  tested_after small (ByFlow old) (ByLrpd new) marked stand = absurd marked
  tested_after small (ByLrpd old) (ByFlow new) marked stand = absurd marked
  tested_after small (ByLrpd old) (ByLrpd new) marked stand = absurd marked

  stand_after : index + lanes ≤ 4294967295 → (old new : Planes)
      → SitesMarked (touches_in rows sites) index lanes old new → StandAt old e (marks_of (visits_below made index e)) → StandAt new e (marks_at lanes)
  stand_after small old new marked stand = record {
    plain = marked.plain.bits e
        ∙ bit_after (λ m. m.plain) (λ f. f.plain) kind_is_plain (λ a i f. refl)
        (λ lane less. flag_by (λ f. f.plain) kind_is_plain plain_law refl lane) _
        (stand.plain ∙ sym (ap (λ (m : Marks). m.plain) marks_first)) lanes (omega arith);
    by = λ op. (marked.by op).bits e
        ∙ bit_after (λ m. m.by op) (λ f. f.by op) (kind_reduces_by op) (λ a i f. refl)
        (λ lane less. flag_by (λ f. f.by op) (kind_reduces_by op) (by_law op) refl lane) _
        (stand.by op ∙ sym (ap (λ (m : Marks). m.by op) marks_first)) lanes (omega arith);
    tested = tested_after small old.tested new.tested marked.tested stand.tested;
  }

-- so planes get the marks of the lanes
pub lanes_marked : (sites : List Site) (rows : LaneRows) (index lanes : ℕ) (old new : Planes)
    → index + lanes ≤ 4294967295 → AreUnseen rows lanes sites → SitesMarked (touches_in rows sites) index lanes old new
    → LanesMarked (log_of sites rows) index lanes old new
lanes_marked sites rows index lanes old new small unseen marked made touch stand = record {
  whole = marked.shape.whole;
  marks = λ e inside. stand_after rows sites index lanes made touch unseen e small old new marked
      (stand.marks e (let same = marked.shape.elements in omega (arith, inside, same)));
}
