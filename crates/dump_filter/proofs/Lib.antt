mod Prelude
pub mod Values
pub mod groups
pub mod written
pub mod answer
pub mod knowing
pub mod again
