pub mod CallLaws
pub mod AllLaws
