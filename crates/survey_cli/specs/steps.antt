pub mod Answered
pub mod LawfulLines
