-- What a record is, and the groups of a dump when one more record comes.
pub mod GroupLemmas
pub mod KindLemmas
pub mod KeptLemmas
pub mod NumberLemmas
