pub mod Answers
pub mod Document
pub mod Faults
pub mod Indexes
pub mod Names
pub mod Numbers
pub mod Words
