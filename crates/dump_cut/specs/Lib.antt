pub mod FirstParts
pub mod LaterParts
pub mod RevisionFates
pub mod TrimmedCopies
pub mod steps
