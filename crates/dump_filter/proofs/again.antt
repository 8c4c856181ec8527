-- What was written for a dump without a fault is such a dump, and is left unchanged.
pub mod ReadAgain
pub mod LineChanges
pub mod Headers
pub mod Record
pub mod Output
pub mod Order
pub mod Numbers
pub mod RecordList
pub mod Free
pub mod OwnTextLaw
