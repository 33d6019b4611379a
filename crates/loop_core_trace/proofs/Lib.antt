pub mod TouchLaws
pub mod OperatorLaws
pub mod SlotLaws
pub mod JournalLaws
pub mod Underway
pub mod GoingOn
