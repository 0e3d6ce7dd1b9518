-- a polygon round a rectangle, its mask, its piece
pub mod OnePolygon
pub mod OneMask
pub mod PiecesOf
-- what the cell covers, a layout of its rectangles, and that there is one
pub mod OneCell
pub mod Drawn
pub mod InRange
-- what is promised
pub mod ReadBack
