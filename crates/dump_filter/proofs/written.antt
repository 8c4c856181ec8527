-- What the code makes of a record is what the definitions say is written for it.
pub mod HeaderLemmas
pub mod LineLemmas
pub mod PropertyOutput
pub mod OutputLemmas
pub mod OwnLemmas
pub mod CopyLemmas
pub mod StayLemmas
