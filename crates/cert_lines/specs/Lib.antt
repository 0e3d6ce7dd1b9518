pub mod Lines
pub mod Written
pub mod Limits
pub mod Guesses
pub mod Read
