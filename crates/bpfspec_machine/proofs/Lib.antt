pub mod LoadLaws
pub mod RunLaws
pub mod WordLaws
