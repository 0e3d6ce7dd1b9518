-- the strips of one mask
pub mod Members
-- numbers of pieces
pub mod Numbering
