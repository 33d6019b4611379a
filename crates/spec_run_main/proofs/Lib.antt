pub mod LoopEnds
pub mod Turns
pub mod CallLists
pub mod ReportLines
pub mod Reported
