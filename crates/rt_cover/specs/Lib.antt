-- rectangles and what covers them
pub mod Covering
-- the sweep that finds it
pub mod Bars
pub mod Across
