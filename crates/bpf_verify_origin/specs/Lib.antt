pub mod Edges
pub mod Sources
pub mod Inspected
pub mod Runs
pub mod RunSources
pub mod RunSteps
