mod Prelude
pub mod DriveLemmas
pub mod WordLemmas
pub mod Values
