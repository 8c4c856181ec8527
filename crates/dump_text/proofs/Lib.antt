mod Prelude
pub mod BoolLemmas
pub mod NumberLemmas
pub mod SpellingLemmas
pub mod Unique
pub mod ScanLemmas
pub mod BlockLemmas
pub mod NameLemmas
pub mod PlaceLemmas
pub mod ValueLemmas
pub mod PartLemmas
pub mod PropertyLemmas
pub mod WrittenLemmas
pub mod Splits
pub mod PropertyChoice
pub mod Values
