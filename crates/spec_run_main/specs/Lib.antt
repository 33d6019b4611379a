pub mod Calls
pub mod Lines
pub mod Reports
pub mod Programs
