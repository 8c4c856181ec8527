pub mod Arguments
pub mod FilterCalls
pub mod FilterCommand
pub mod Info
pub mod NamedOutputs
pub mod Targets
pub mod steps
