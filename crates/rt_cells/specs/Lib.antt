pub mod Line
pub mod Cells
pub mod Rectangles
