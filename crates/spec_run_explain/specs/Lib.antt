pub mod Conflicting
pub mod Showing
pub mod Causes
pub mod Programs
