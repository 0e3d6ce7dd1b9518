-- masks that are kept clear, channels of the source and drawn ones
pub mod Clear
pub mod Source
pub mod Drawn
-- all channels: the rules cross and reach, their order, a finer grid
pub mod Crossings
pub mod Reach
pub mod Order
pub mod Fine
-- the public laws, and a crossing that is carried
pub mod Offered
pub mod Sample
