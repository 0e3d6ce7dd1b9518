pub mod Documents
pub mod Lookups
pub mod Naming
pub mod Texts
