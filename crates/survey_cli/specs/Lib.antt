pub mod CallLaws
pub mod Drive
pub mod Words
pub mod steps
