-- Which values miss a source or name a foreign number.
pub mod FaultLemmas
pub mod MergedLemmas
pub mod MergedMeaning
pub mod MergeFaults
