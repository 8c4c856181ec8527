mod Prelude
pub mod PrefixLemmas
pub mod BarePrefixLemmas
pub mod ReachLemmas
pub mod Values
pub mod reading
pub mod faults
pub mod new_values
