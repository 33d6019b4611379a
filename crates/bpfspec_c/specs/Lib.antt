pub mod Holding
pub mod Statuses
pub mod Refusals
pub mod Calls
pub mod Options
pub mod Printing
