pub mod CommandLemmas
pub mod CutLemmas
pub mod DriveLemmas
pub mod EarlierLemmas
pub mod ExamineLemmas
pub mod FrontLemmas
mod HeadlineValues
pub mod MapLemmas
mod PlainCall
pub mod headline
mod Values
