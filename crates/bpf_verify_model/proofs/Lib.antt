pub mod MarkLaws
pub mod MeetLaws
pub mod WordMeetLaws
pub mod WriteLaws
pub mod JumpLaws
pub mod LongestLaws
pub mod PathLaws
