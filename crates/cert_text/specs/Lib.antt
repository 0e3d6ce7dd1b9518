pub mod Claims
pub mod Beginnings
pub mod Wants
pub mod Stages
pub mod Texts
pub mod Reached
pub mod Building
pub mod Taking
