pub mod Checks
pub mod VerdictMeaning
pub mod MergeFaults
pub mod ContentViews
pub mod DoneViews
