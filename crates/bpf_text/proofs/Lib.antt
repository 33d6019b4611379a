pub mod HexLines
pub mod SpelledBytes
pub mod HexBack
pub mod ReadingLaws
pub mod PrintedLabels
pub mod UnitBack
