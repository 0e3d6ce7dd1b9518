-- slots of a line, parts of a strip, parts that touch
pub mod Slots
pub mod Inside
pub mod Touching
-- the columns that adjoining parts share, the seat of each part, and where it lies in another layout
pub mod Spans
pub mod Seats
pub mod Landing
-- parts are nodes of the cells that aren't cut; cuts beside channels
pub mod Whole
pub mod Sides
-- the public laws, and two strips that are cut
pub mod Offered
pub mod Sample
