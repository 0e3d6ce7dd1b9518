-- cuts by their strips
pub mod Cutting
pub mod UpperLower
pub mod Boxing
pub mod Telling
-- cells that are the same, and laws of the shapes
pub mod Alike
pub mod First
pub mod Found
pub mod Touched
-- one list of lower masks
pub mod OneLower
