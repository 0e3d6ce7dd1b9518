pub mod Reading
pub mod Answered
pub mod InRows
pub mod Kept
pub mod Offers
pub mod Pairs
pub mod Reached
