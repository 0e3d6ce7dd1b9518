pub mod Own
pub mod Wide
pub mod InOrder
pub mod Listed
pub mod Exchanged
-- gaps and corners of a mask
pub mod Gapped
pub mod Cornered
-- bars, and strips that are near
pub mod Walking
pub mod Nearby
-- the search for a breach
pub mod Breaching
-- cuts by size, by what encloses them, by their distance
pub mod Squared
pub mod Enclosed
pub mod Distant
-- what the rules of two masks count
pub mod Paired
