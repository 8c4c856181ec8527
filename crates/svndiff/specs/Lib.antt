pub mod Svndiff
pub mod DeltaLaws
pub mod steps
