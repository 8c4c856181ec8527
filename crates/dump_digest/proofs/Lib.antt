mod Prelude
pub mod KeptLemmas
pub mod DigestLemmas
pub mod MergeLemmas
pub mod PropertyBlocks
pub mod SaidLemmas
pub mod VerdictLemmas
pub mod Values
pub mod VerdictChoice
