-- The answer to a record is its least fault, or there is none.
pub mod MergeLemmas
pub mod FaultLemmas
pub mod DecisionLemmas
