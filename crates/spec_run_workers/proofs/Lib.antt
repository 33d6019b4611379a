pub mod AloneLaws
pub mod WorkerLaws
pub mod StillWorks
pub mod CompleteLaws
