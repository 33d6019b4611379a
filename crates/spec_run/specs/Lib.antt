pub mod Calls
pub mod AsInOrder
