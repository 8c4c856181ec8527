mod Prelude
pub mod again
pub mod restricted
pub mod expanded
pub mod cuts
pub mod survey
pub mod values
