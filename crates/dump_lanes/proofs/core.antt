-- The pool's core: each fact of it, kept by every event of a run.
pub mod Credits
pub mod Endings
pub mod Ends
pub mod FirstEntry
pub mod Marks
pub mod Order
pub mod Places
pub mod Progress
pub mod Settling
pub mod Slots
pub mod Steps
pub mod Still
pub mod Stop
pub mod Weights
pub mod Runs
