pub mod Machines
pub mod Loading
pub mod Elements
