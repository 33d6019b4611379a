pub mod Runs
pub mod Undo
pub mod Pages
pub mod Watching
