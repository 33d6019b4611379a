pub mod Standing
pub mod Moves
pub mod Steps
pub mod Replays
