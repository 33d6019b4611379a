pub mod MainTurns
pub mod ReplayLaws
