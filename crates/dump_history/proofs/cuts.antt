-- What is filtered of dumps by excluded prefixes.
pub mod OwnNumbers
pub mod WrittenChanges
pub mod TrimmedTexts
pub mod TrimmedLaw
pub mod CopiesOver
pub mod KeptChanges
