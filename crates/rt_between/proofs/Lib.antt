pub mod Overlaps
pub mod Grouped
pub mod Extremes
pub mod Among
pub mod Owned
pub mod Growing
pub mod Lessened
