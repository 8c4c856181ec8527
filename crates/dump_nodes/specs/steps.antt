pub mod Actions
pub mod Names
