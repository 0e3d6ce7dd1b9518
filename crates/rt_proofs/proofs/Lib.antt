pub mod Products
pub mod Values
pub mod Rounding
pub mod Bounds
pub mod Goals
pub mod Stacks
pub mod Alike
pub mod Weaker
pub mod Given
pub mod Rounded
pub mod Paths
mod Excluded
pub mod Once
