-- strips that channels cut, and their parts
pub mod Parts
-- what is promised, and two strips of which it is
pub mod Laws
pub mod Sample
