-- the strips of one mask, as the code reads them
pub mod Families
pub mod Reading
-- numbers of pieces
pub mod Linking
