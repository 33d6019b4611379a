pub mod MostLaws
pub mod OneMoreLaws
pub mod RunLaws
pub mod SplitEnds
