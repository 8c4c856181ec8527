-- The new value of mergeinfo, line by line, and that there is one.
pub mod Unique
pub mod JoinLemmas
pub mod RunsLaw
pub mod NewRangeLemmas
pub mod RunsLemmas
pub mod NewLineLemmas
pub mod ValueLemmas
pub mod LaterRevisions
pub mod OneNewValue
pub mod OwnValue
