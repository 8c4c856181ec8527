pub mod CommandLine
pub mod Headline
pub mod RevisionMap
pub mod Sent
pub mod Statuses
pub mod Texts
pub mod Words
pub mod steps
