pub mod DataTests
pub mod Deciding
pub mod Framed
pub mod Magnitudes
pub mod Places
pub mod Spelled
pub mod Turns
pub mod Bytes
