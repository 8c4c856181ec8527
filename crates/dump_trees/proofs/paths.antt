-- Paths and their texts: which paths are kept, and which are parent directories.
pub mod PathNames
pub mod KeptPaths
pub mod PrefixRests
pub mod GivenDirectories
pub mod PrefixPaths
pub mod SiblingLemmas
pub mod NamedLines
pub mod CanonicalLemmas
pub mod CutLineLemmas
