pub mod Rows
pub mod Slabs
pub mod Steps
