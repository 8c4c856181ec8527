pub mod FilledFlags
pub mod LineReading
