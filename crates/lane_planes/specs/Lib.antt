pub mod Kept
pub mod Writes
pub mod Words
pub mod Merged
pub mod Conflicts
