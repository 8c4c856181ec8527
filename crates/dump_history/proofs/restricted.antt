-- The laws of filtered dumps.
pub mod LoadsOnce
pub mod FrontSize
pub mod FilteredLaw
pub mod RaisedLemmas
pub mod DirectoryLaw
pub mod PartNumbers
pub mod PartChanges
pub mod PartLaw
