pub mod Lookups
pub mod OutsideLemmas
