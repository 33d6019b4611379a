pub mod CallLaws
pub mod HeldValues
pub mod PrintLaws
pub mod Values
