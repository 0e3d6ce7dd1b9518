pub mod Faultless
pub mod InOrder
pub mod Read
pub mod ReadMasks
pub mod ReadRules
