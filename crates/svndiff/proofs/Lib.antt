mod Prelude
pub mod NumberLemmas
pub mod SourceLemmas
pub mod TargetLemmas
pub mod TextLemmas
pub mod ViewLemmas
pub mod MiddleLemmas
pub mod Values
