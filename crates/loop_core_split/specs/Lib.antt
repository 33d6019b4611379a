pub mod Plans
pub mod Splits
