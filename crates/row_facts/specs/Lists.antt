-- The sites of a list.
use Rattle.std.specs.Prelude.{◌≤◌, List, length}
use Rattle.lane_stamps.specs.Stamps.{AreRanked}
use Rattle.row_list.specs.declared.row_op.RowOp.{RowOp}
use Rattle.row_facts.specs.{declared.{meeting.Meeting.{Meeting}, listing.ListSites.{ListSites}}, Meetings.{AreMeetings}}
use Rattle.row_facts.specs.{SiteKinds.{AreListed}, Marks.{AreMarked}, Slots.{AreSlots}}

-- sites are those of a list, in order, ranked, and marked by accesses of which no others meet; and its slots
pub record AreListSites (list : List RowOp) (made : ListSites) : Type 0 where
  pub few : length made.sites.items ≤ 255
  pub listed : AreListed list made.accesses.items made.sites.items
  pub ranked : AreRanked made.sites.items
  pub meetings : List Meeting
  pub are : AreMeetings list meetings
  pub marked : AreMarked meetings made.sites.items
  pub slots : AreSlots list (length list) made.slots.items
