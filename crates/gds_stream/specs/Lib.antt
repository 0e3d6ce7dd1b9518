pub mod Kept
pub mod Elements
pub mod Contents
pub mod Written
pub mod Gives
pub mod Refusals
pub mod Rests
