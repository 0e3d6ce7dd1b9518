pub mod Along
pub mod Numbered
pub mod Close
pub mod Listed
