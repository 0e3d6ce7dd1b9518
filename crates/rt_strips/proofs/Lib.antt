mod Grown
pub mod Placed
pub mod Standing
pub mod Family
pub mod Runs
pub mod Sorted
pub mod OneList
pub mod Renumbering
pub mod Edges
pub mod Meetings
pub mod SeamList
pub mod Appended
pub mod Kept
pub mod PieceStrips
pub mod Untouched
pub mod Roles
pub mod Marks
pub mod Tallied
pub mod LayoutStrips
pub mod Bits
pub mod Chains
mod Stacked
mod Keeping
mod Rows
mod Goings
mod Columns
mod Built
mod Parts
mod Crossed
mod Commons
