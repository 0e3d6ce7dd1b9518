pub mod Demands
pub mod Rules
pub mod Tech
pub mod Words
