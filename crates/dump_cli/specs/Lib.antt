pub mod Drive
pub mod Words
pub mod steps
