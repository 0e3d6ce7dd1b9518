pub mod Scale
pub mod Escapes
pub mod Outcome
