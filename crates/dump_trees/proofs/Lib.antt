mod Prelude
pub mod paths
pub mod changes
pub mod histories
pub mod quiet
pub mod expansions
pub mod cuts
pub mod values
