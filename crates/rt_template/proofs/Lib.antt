pub mod Sides
pub mod OneRow
pub mod Columns
