pub mod Forms
pub mod Kinds
pub mod Masks
pub mod Rules
pub mod Tables
