pub mod Sites
pub mod Forms
pub mod Applying
pub mod Stamps
pub mod Marks
