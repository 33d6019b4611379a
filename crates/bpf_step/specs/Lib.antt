pub mod Standing
pub mod Laws
pub mod Iterations
pub mod Mains
pub mod Turns
