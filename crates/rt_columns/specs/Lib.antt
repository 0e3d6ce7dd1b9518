pub mod Shown
pub mod Adding
pub mod Bars
pub mod Columns
pub mod Slabs
pub mod Sides
pub mod Ranking
