pub mod CommandLine
pub mod Faults
