-- groups of joined items, and their numbers
pub mod Groups
-- the parents of items
pub mod Parents
-- the numbers that entries have so far
pub mod Entries
