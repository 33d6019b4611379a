pub mod Streams
pub mod Refusals
pub mod ReportText
