mod Prelude
pub mod Ends
pub mod Joined
pub mod OneAnswer
pub mod Receiving
pub mod Released
pub mod RunLemmas
pub mod Steps
pub mod Values
