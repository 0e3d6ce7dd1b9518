pub mod Words
pub mod Fetched
pub mod Given
pub mod Naming
pub mod Answers
