mod Prelude
pub mod HeaderLemmas
pub mod Versions
pub mod Unique
pub mod PartLemmas
pub mod CutLemmas
pub mod ListLaw
pub mod Prefixes
pub mod CutterLemmas
pub mod RecordLemmas
pub mod RestLemmas
pub mod Values
