-- Which sites are watched.
use Rattle.std.proofs.{Common.{◌∙◌, ◌≤◌, List, length, slice_index_or, Some, ap}, lemmas.Option.{slice_get-get_or}}
use Rattle.lane_stamps.specs.{declared.site.Site.{Site}, Stamps.{AreRanked}}
use Rattle.row_facts.specs.{declared.{meeting.Meeting.{Meeting}, listing.ListSites.{ListSites}}, Meetings.{AreMeetings}}
use Rattle.row_facts.specs.{Lists.{AreListSites}, SiteKinds.{AreListed}, Slots.{AreSlots}}
use Rattle.row_facts.specs.Marks.{AreEven, AreMarked, WatchesEach}
use Rattle.row_list.specs.declared.row_op.RowOp.{RowOp}

pub are_marked : (meetings : List Meeting) (sites : List Site) → WatchesEach sites meetings → AreEven sites
    → AreMarked meetings sites
are_marked meetings sites each even = record {
  listed = λ i j d within inside listed.
      let meeting : Meeting = record { first = i; second = j } in
      let there = slice_get-get_or meetings listed.0 meeting listed.1 ∙ ap (λ (m : Meeting). Some m) listed.2 in
      let both = each listed.0 meeting there in (
        both.0 (slice_index_or sites i d) (slice_get-get_or sites i d within),
        both.1 (slice_index_or sites j d) (slice_get-get_or sites j d inside),
      );
  even = λ i j d within inside. (even i d within).each j d inside;
}

pub list_sites_of : (list : List RowOp) (made : ListSites) (meetings : List Meeting) → length made.sites.items ≤ 255
    → AreListed list made.accesses.items made.sites.items → AreRanked made.sites.items → AreMeetings list meetings
    → AreMarked meetings made.sites.items → AreSlots list (length list) made.slots.items → AreListSites list made
list_sites_of list made meetings few listed ranked are marked slots =
    record { few = few; listed = listed; ranked = ranked; meetings = meetings; are = are; marked = marked; slots = slots }
