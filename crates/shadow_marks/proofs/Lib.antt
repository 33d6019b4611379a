pub mod BitLaws
pub mod KeptLaws
pub mod TouchLaws
pub mod FoldLaws
pub mod EndLaws
pub mod BetweenLaws
pub mod ClearLaws
