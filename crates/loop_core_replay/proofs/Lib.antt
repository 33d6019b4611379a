pub mod WorkerEvents
pub mod StandingLaws
pub mod BlockLaws
pub mod EventLaws
pub mod EndLaws
