pub mod Near
pub mod Entries
pub mod Pairs
