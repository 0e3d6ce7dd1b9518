-- Lemmas on lines.
pub mod Decimals
pub mod Splitting
pub mod Guessed
