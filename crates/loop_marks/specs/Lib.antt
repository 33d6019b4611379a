pub mod Touches
pub mod Visits
pub mod LaneMarks
pub mod SiteMarks
