pub mod Workers
pub mod Worked
pub mod CompleteLaw
