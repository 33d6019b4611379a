pub mod Stages
pub mod ReplayStages
