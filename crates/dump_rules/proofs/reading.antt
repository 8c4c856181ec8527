-- Ranges and lines are read, and contradictions are found in one pass or some ranges at a time.
pub mod RangeLemmas
pub mod RangeListLemmas
pub mod MergeinfoLemmas
pub mod ClimbLemmas
pub mod BlockLemmas
