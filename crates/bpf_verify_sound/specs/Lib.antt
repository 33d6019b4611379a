pub mod Containment
pub mod KnownStates
pub mod Standing
pub mod Ways
pub mod Soundness
