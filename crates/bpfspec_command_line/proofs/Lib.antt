pub mod CommandLaws
pub mod FaultLaws
