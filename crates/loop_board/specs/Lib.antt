pub mod Sums
pub mod History
pub mod Draws
pub mod Seats
pub mod Rule
pub mod Whole
