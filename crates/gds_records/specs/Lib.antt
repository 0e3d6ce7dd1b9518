pub mod Framing
pub mod Reals
pub mod Records
