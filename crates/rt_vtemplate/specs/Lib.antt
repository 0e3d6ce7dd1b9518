pub mod Added
pub mod Kinds
pub mod Steps
pub mod Listing
pub mod Open
pub mod Whole
pub mod Between
pub mod Apart
