pub mod Rows
pub mod Wide
pub mod Axes
-- the gaps and corners of a mask
pub mod Following
pub mod Cornering
-- bars that share cells, strips that are near
pub mod Clashing
pub mod Nearness
-- the search for a breach
pub mod Spacing
-- which strips count; cuts by size, by what encloses them, by their distance
pub mod Counting
pub mod Squares
pub mod Enclosing
pub mod Distances
-- rules in their order, those of one mask, and what the strips of cuts tell
pub mod InOrder
pub mod OneMask
pub mod SoundCuts
