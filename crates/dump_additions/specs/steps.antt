pub mod AdditionLaws
pub mod Additions
pub mod FirstNotAdded
pub mod Nodes
pub mod Parts
pub mod WrittenParts
