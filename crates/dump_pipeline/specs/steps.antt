pub mod Endings
pub mod JoinedNumbers
pub mod Messages
pub mod Parts
pub mod Progress
pub mod Sending
pub mod PlanRange
