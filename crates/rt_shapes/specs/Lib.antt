-- cuts by their strips
pub mod Cutting
pub mod Sides
pub mod Sound
-- labels by the strips that touch them
pub mod Touching
-- what is promised
pub mod Laws
