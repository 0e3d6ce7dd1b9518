pub mod Cells
pub mod Refusing
