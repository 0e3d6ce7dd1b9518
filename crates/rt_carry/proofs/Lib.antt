pub mod Sides
pub mod Drawings
pub mod Touched
