-- what is written, what is read back of it, and what is promised
pub mod Written
pub mod ReadBack
pub mod Laws
