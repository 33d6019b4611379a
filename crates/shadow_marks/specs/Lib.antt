pub mod Bits
pub mod Kept
pub mod Iteration
pub mod Standing
pub mod Ending
pub mod Runs
pub mod Clearing
