pub mod Grammar
pub mod Format
pub mod Conditions
pub mod Words
pub mod Tests
pub mod Reading
pub mod Stops
pub mod Longest
