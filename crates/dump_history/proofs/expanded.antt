-- Expanded dumps: their nodes, their revisions and what the filter writes of them.
pub mod NodeLemmas
pub mod FormLemmas
pub mod StandLemmas
pub mod TextLemmas
pub mod ExpandedLaw
pub mod SteadLemmas
pub mod ReplacingLemmas
