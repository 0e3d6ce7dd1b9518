pub mod Euclid
pub mod Lowest
pub mod Stored
pub mod Unique
