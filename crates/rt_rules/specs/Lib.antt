pub mod Width
pub mod Space
pub mod Pieces
pub mod Cuts
pub mod Pairs
pub mod Rules
