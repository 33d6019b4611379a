pub mod VisitLaws
pub mod LaneLaws
pub mod SiteLaws
pub mod UnseenLaws
pub mod RunLaws
pub mod OverLaws
pub mod OneLaws
