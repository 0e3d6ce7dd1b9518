pub mod Lawful
pub mod Values
