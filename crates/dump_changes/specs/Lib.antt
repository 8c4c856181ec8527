pub mod ListedDumps
pub mod TextDeltas
pub mod steps
