pub mod Independent
pub mod Reach
pub mod Open
pub mod Slices
pub mod Inspections
