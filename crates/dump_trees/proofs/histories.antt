-- Whole histories, their first revisions, and a load after others.
pub mod KeptNumbers
pub mod HistoryLemmas
pub mod FrontLemmas
pub mod MovedLemmas
pub mod AlikeLemmas
pub mod NamingLemmas
pub mod StandingNames
