pub mod ByChanges
pub mod ByteLemmas
pub mod ChangeValues
pub mod ExpandingLemmas
pub mod JoinLemmas
pub mod NodeLemmas
pub mod SteadLemmas
pub mod Values
