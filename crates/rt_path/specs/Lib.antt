pub mod Longest
pub mod Raises
pub mod Chains
pub mod WaysBack
pub mod Steps
pub mod Solved
