pub mod Sums
pub mod Histories
pub mod Moves
pub mod Parting
pub mod Wholes
