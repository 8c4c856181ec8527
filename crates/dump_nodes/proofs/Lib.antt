mod Prelude
pub mod ActionLemmas
pub mod NameLemmas
pub mod NodeLemmas
pub mod PlainLemmas
