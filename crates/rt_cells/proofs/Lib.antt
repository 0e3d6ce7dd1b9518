pub mod Numbers
pub mod Lines
pub mod Times
pub mod Lists
pub mod Entries
pub mod Rectangles
