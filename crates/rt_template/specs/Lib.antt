pub mod Between
pub mod Horizontal
pub mod Vertical
pub mod Drawing
