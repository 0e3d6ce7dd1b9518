pub mod Asked
pub mod Candidates
pub mod Near
pub mod Wanted
