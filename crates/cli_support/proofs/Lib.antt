mod Prelude
pub mod CommandLemmas
pub mod FilledLemmas
pub mod FilterLemmas
pub mod LineLemmas
pub mod NumberLemmas
pub mod OutputLemmas
pub mod TargetLemmas
mod Values
pub mod WordLemmas
