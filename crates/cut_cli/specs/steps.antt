pub mod Cuts
pub mod Drive
pub mod Ended
pub mod Examined
pub mod RevisionMap
pub mod Words
