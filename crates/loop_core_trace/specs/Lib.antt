pub mod Operators
pub mod Touches
pub mod Journals
pub mod Places
pub mod Traced
