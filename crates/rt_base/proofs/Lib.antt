pub mod Gaps
pub mod Quarters
