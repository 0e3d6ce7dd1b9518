pub mod Rows
pub mod Places
pub mod Order
pub mod Keys
pub mod Known
