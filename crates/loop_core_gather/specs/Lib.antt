pub mod Counting
pub mod Held
pub mod Gathered
pub mod Touched
pub mod Pages
pub mod Decisions
