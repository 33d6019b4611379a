pub mod SlotFlags
pub mod Layout
pub mod Passing
pub mod Rows
pub mod Counting
pub mod States
