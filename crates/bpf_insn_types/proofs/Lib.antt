pub mod ProgramLaws
pub mod Cases
pub mod SignedLaws
pub mod WordLaws
