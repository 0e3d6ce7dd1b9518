pub mod Pieces
pub mod Breaches
pub mod First
pub mod Listed
pub mod Alike
pub mod Few
pub mod Measured
