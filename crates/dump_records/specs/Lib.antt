pub mod HeaderRules
pub mod RecordText
pub mod DumpText
pub mod RecordLaws
pub mod steps
