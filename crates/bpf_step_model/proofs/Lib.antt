pub mod Endings
pub mod BoundLaws
pub mod StateLists
pub mod StuckRuns
pub mod AtomicLaws
