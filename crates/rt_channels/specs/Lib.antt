-- a channel, and all channels of two masks
pub mod Channels
pub mod Crossings
-- what is promised, and a crossing of which it is
pub mod Laws
pub mod Sample
