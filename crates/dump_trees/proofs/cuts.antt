-- What a program that cuts a dump has to find out: whether the dump loads, what comes back, and to which paths copies
-- are followed.
pub mod CheckedSteps
pub mod CheckedLoads
pub mod CoveredPaths
pub mod ReturnLemmas
pub mod FollowLemmas
pub mod PlainLooks
pub mod EverKept
pub mod DeleteLemmas
pub mod PlacedCopies
pub mod FirstChanges
pub mod EverSiblings
pub mod RestLemmas
