mod Prelude
pub mod DriveLemmas
pub mod MapLemmas
mod Values
