pub mod FirstLoop
pub mod FoundLoop
pub mod ProgramReplay
