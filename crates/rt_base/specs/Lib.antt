pub mod Ledger
pub mod Plane
pub mod Text
