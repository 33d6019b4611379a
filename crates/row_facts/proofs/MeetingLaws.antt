-- Pairs of sites that never meet.
use Rattle.std.proofs.Common.{◌≡◌, ℕ, ◌+◌, ◌^◌, ◌<◌, ◌≤◌, inl, inr, List, [], ◌∷◌, ◌++◌, length, true, sym, ap, subst}
use Rattle.std.{proofs.{Common.{arith, ◌∙◌}, lemmas.Option.{slice_get_within}}, specs.Prelude.{slice_get, slice_index, Some}}
use Rattle.std.proofs.lemmas.{List.Elements.{Contains-append_left}, Bool.{cases_lt}}
use Rattle.bpf_step_model.specs.AreaWords.{byte_named}
use Rattle.row_list.specs.{declared.row_op.{Place.{Place}, RowOp.{RowOp}}, Rows.{AreValuesOn, byte_at, is_in}}
use Rattle.row_facts.specs.declared.{site.Site.{Site}, fact.Fact.{Fact}, lines.Line.{Line}, meeting.Meeting.{Meeting}}
use Rattle.row_facts.specs.{Apart.{AreBytesApart, AreLinesApart}, Facts.{IsOnLine, IsSure, AreFacts}}
use Rattle.row_facts.specs.{Narrower.{AreMasksApart}, Sites.{IsSite, AreSites, bytes_in, sites_of}}
use Rattle.row_facts.specs.Meetings.{IsAligned, IsHalfOf, Touches, AreApart, AreApartInLane, AreKept, AreDone, Follows}
use Rattle.row_facts.{specs.Meetings.{IsListedOrNever}, proofs.SiteLaws.{known, some-same}}

-- a lane that touches a half at a site, and what is known of the byte that it names there
record IsNamed (site : Site) (index : ℕ) (values : List ℕ) (half : ℕ) : Type 0 where
  there : is_in values site.place.mask ≡ true
  sure : IsSure site.byte index (byte_at values site.place)
  covers : IsHalfOf site.place.width (byte_at values site.place) half

module _ (list : List RowOp) (facts : List Fact) (are : AreFacts list facts) where
  named : (site : Site) (index : ℕ) (caller : List ℕ) (words : ℕ → List ℕ) (values : List ℕ) (half : ℕ) → index ≤ 2 ^ 23 → IsSite list facts site →
      AreValuesOn list index caller words values → Touches site.op values half → IsNamed site index values half
  named site index caller words values half few is lane touches =
      let same : touches.place ≡ site.place = some-same touches.place site.place (sym touches.is ∙ is.there) in
      let there = subst (λ (p : Place). is_in values p.mask ≡ true) same touches.there in
      record {
        there = there;
        sure = is.byte index caller words values lane (are.each index caller words values few lane) there;
        covers = subst (λ (p : Place). IsHalfOf p.width (byte_at values p) half) same touches.covers;
      }

  module _ (at by : Site) (one : IsSite list facts at) (two : IsSite list facts by) where
    -- accesses that are aligned, and whose bytes are apart
    pub bytes_apart : (distance : ℕ) → IsAligned at → IsAligned by →
        AreBytesApart at.byte (bytes_in at.place.width) by.byte (bytes_in by.place.width) distance →
        AreApart list at.op by.op distance
    bytes_apart distance first second apart = record {
      none = λ index caller words before values others few later earlier half touch touched.
          let a = named at (index + distance) caller words values half few one later touch in
          let b = named by index caller before others half (omega arith) two earlier touched in
          apart.never index (byte_at values at.place) (byte_at others by.place) half a.sure b.sure
          (first (index + distance) (byte_at values at.place) half a.sure a.covers)
          (second index (byte_at others by.place) half b.sure b.covers);
    }

    -- at one address, by the offsets: their bytes are on lines from the address
    pub offsets_apart : (line other : Line) → at.place.address ≡ by.place.address → IsAligned at → IsAligned by →
        ((address : ℕ) → IsOnLine line address (byte_named address at.place.offset)) →
        ((address : ℕ) → IsOnLine other address (byte_named address by.place.offset)) →
        AreLinesApart line (bytes_in at.place.width) other (bytes_in by.place.width) 0 → AreApartInLane list at.op by.op
    offsets_apart line other same first second on_one on_other apart = record {
      none = λ index caller words values few lane half touch touched.
          let a = named at index caller words values half few one lane touch in
          let b = named by index caller words values half few two lane touched in
          let address = slice_index values at.place.address in
          let here : address + 0 ≡ address = omega arith in
          apart.never address (byte_at values at.place) (byte_at values by.place) half
          (subst (λ (n : ℕ). IsOnLine line n (byte_at values at.place)) (sym here) (on_one address))
          (subst (λ (k : ℕ). IsOnLine other (slice_index values k) (byte_at values by.place)) (sym same)
          (on_other (slice_index values by.place.address)))
          (first index (byte_at values at.place) half a.sure a.covers)
          (second index (byte_at values by.place) half b.sure b.covers);
    }

    -- under masks that are apart
    pub masks_apart : AreMasksApart list at.place.mask by.place.mask → AreApartInLane list at.op by.op
    masks_apart apart = record {
      none = λ index caller words values few lane half touch touched.
          apart.never index caller words values lane
          (named at index caller words values half few one lane touch).there
          (named by index caller words values half few two lane touched).there;
    }

-- a lane is no index after itself
pub same_lane : (list : List RowOp) (at by : RowOp) → AreApart list at by 0 → AreApartInLane list at by
same_lane list at by apart = record {
  none = λ index caller words values few lane half touch touched.
      let same : index + 0 ≡ index = omega arith in
      apart.none index caller words words values values (omega (arith, few))
      (subst (λ (i : ℕ). AreValuesOn list i caller words values) (sym same) lane) lane half touch touched;
}

-- one more meeting
pub push-kept : (meetings : List Meeting) (meeting : Meeting) → AreKept meetings (meetings ++ meeting ∷ [])
push-kept meetings meeting = record {
  each = λ first second.
      Contains-append_left meetings (meeting ∷ []) (record { first = first; second = second });
}

pub more-kept : (old new : List Meeting) (meeting : Meeting) → AreKept old new → AreKept old (new ++ meeting ∷ [])
more-kept old new meeting kept = record {
  each = λ first second listed. (push-kept new meeting).each first second (kept.each first second listed);
}

-- what follows of a site and others, so far
module _ (list : List RowOp) (sites : List Site) where
  pub done_kept : (first count : ℕ) (old new : List Meeting) → AreKept old new →
      AreDone list sites first count (IsListedOrNever list old first) →
      AreDone list sites first count (IsListedOrNever list new first)
  done_kept first count old new kept done = record {
    each = λ second at by few here there facts are one two. elim (done.each second at by few here there facts are one two) [
      | inl listed ↦ inl (kept.each first second listed)
      | inr never ↦ inr never
    ];
  }

  -- with one more
  pub done_more : (first count : ℕ) (at by : Site) (fact : ℕ → (at by : RowOp) → Type 0) →
      slice_get sites first ≡ Some at → slice_get sites count ≡ Some by → Follows list at by (fact count at.op by.op) →
      AreDone list sites first count fact → AreDone list sites first (count + 1) fact
  done_more first count at by fact is_at is_by new done = record {
    each = λ second one two few here there. elim (cases_lt second count) [
      | inl l ↦ done.each second one two l here there
      | inr l ↦
          let same : count ≡ second = omega arith in
          let first_one : at ≡ one = some-same at one (sym is_at ∙ here) in
          let second_one : by ≡ two = some-same by two (sym is_by ∙ ap (slice_get sites) same ∙ there) in
          subst (λ (s : Site). Follows list s two (fact second s.op two.op)) first_one
          (subst (λ (s : Site). Follows list at s (fact second at.op s.op)) second_one
          (subst (λ (k : ℕ). Follows list at by (fact k at.op by.op)) same new))
    ];
  }

  -- of a site with all
  pub all_done : (facts : List Fact) (fact : (first second : ℕ) (at by : RowOp) → Type 0) → AreFacts list facts →
      AreSites list facts list sites →
      (first : ℕ) → (first < length sites → AreDone list sites first (length sites) (fact first)) →
      (second : ℕ) (at by : RowOp) → slice_get (sites_of list) first ≡ Some at →
      slice_get (sites_of list) second ≡ Some by → fact first second at by
  all_done facts fact are_facts are_sites first done second at by here there =
      let one = known list facts sites first at are_sites here in
      let two = known list facts sites second by are_sites there in
      subst (λ (o : RowOp). fact first second o by) one.same
      (subst (λ (o : RowOp). fact first second one.site.op o) two.same
      ((done (slice_get_within sites first one.site one.there)).each second one.site two.site
      (slice_get_within sites second two.site two.there) one.there two.there facts are_facts one.is two.is))
