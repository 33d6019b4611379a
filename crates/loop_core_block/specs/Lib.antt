pub mod Blocks
pub mod Shown
pub mod Ran
pub mod Loops
pub mod Runs
pub mod LoopBlocks
pub mod Unmarked
pub mod Workspaces
