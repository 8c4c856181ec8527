pub mod DrainedRun
pub mod LawfulLines
pub mod Lines
