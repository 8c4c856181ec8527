pub mod ByChanges
pub mod ExpandedBytes
pub mod Given
pub mod GivenSteads
pub mod LeftParts
pub mod NewNodes
pub mod NodeTexts
