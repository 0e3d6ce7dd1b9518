-- hosts of rectangles
pub mod Hosts
-- the sweep that finds one for each
pub mod Bars
pub mod Across
