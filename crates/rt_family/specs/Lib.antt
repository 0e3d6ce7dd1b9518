-- strips, what carries them, and the rows that do
pub mod Strips
pub mod Carried
pub mod Rows
-- what is promised, and a mask of which it is
pub mod Laws
pub mod Sample
