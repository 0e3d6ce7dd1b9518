pub mod Polygon
pub mod Slabs
pub mod Sweep
pub mod Path
pub mod Steps
